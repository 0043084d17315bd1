use Rattle.rgo_typed.specs.Views.{term_of}
use Rattle.rgo_lower.specs.Emitted.{made_of}
use Rattle.rgo_lower.proofs.Growing.{ok_map}
use Rattle.rgo_lower.proofs.BlockParts.{test_emitted}
use Rattle.rgo_lower.proofs.statements.lower_test.Goals as goal

pub returns : goal.returns
returns c =
    let a = made_of c.args.b.now in
    let b = made_of c.lower_term.new.b in
    let e = made_of c.branch_on.new.self in
    ok_map c.branch_on.result _ _
    (test_emitted (term_of c.args.test.now) c.in_ok-d.d c.args.other c.args.place a b e c.in_ok-d.ensures)
    c.branch_on.ensures
