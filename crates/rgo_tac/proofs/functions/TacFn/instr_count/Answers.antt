use Rattle.std.proofs.Common.{◌∙◌, ap, sym, length}
use Rattle.rgo_tac.proofs.Bodies.{body_length}
use Rattle.rgo_tac.proofs.functions.TacFn.instr_count.Goals as goal

pub returns-clause-count : goal.returns-clause-count
returns-clause-count c =
    let b = c.self.inside.body in
    ap length c.items.ensures ∙ sym (body_length b.lists b.pieces b.instrs b.places)
    ∙ ap (λ f. length f.body) c.self.view_is
