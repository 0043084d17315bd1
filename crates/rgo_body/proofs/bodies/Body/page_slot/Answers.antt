use Rattle.rgo_body.proofs.bodies.Body.page_slot.Goals as goal

pub returns : goal.returns
returns c = λ T p d region shows at.
    c.slot.ensures.any T.sizes.regions d.frame.holder d.memory.fills region shows.holds at
