use Rattle.rgo_body.proofs.bodies.Body.own_page.Goals as goal

pub returns : goal.returns
returns c = λ T p d region shows at.
    c.page.ensures T.sizes.regions d.frame.holder d.memory.fills region shows.holds at
