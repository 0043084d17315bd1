use Rattle.rgo_body.proofs.bodies.Body.slot.Goals as goal

pub returns : goal.returns
returns c slot known = c.slot.ensures.numbered slot known
