use Rattle.std.proofs.Common.{◌∙◌, ap, sym, length}
use Rattle.rgo_tac.proofs.Bodies.{body_length}
use Rattle.rgo_tac.proofs.functions.TacFn.len.Goals as goal

pub returns : goal.returns
returns c =
    let b = c.self.inside.body in
    ap length c.items.ensures ∙ sym (body_length b.lists b.pieces b.instrs b.places)
    ∙ ap (λ f. length f.body) c.self.view_is
