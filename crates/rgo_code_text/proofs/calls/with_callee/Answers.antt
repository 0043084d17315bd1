use Rattle.std.proofs.Common.{List, ℕ, ap, ◌∙◌}
use Rattle.rgo_typed.specs.declared.statements.Piece.{Piece}
use Rattle.rgo_code.specs.Views.{code_op}
use Rattle.rgo_code_text.specs.Views.{own_op}
use Rattle.rgo_code_text.proofs.calls.with_callee.Goals as goal

pub returns : goal.returns
returns c =
    let name = c.args.callee.name.now in
    ap (λ (l : List ℕ). record { op = code_op (own_op l c.new.result.items c.args.instr) c.args.note; name = name })
    c.into_items.ensures
    ∙ ap (λ (ps : List Piece). record { op = code_op (own_op c.args.callee.from ps c.args.instr) c.args.note; name = name })
    c.new.ensures.items
