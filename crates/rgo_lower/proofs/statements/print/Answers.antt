use Rattle.std.proofs.Common.{map}
use Rattle.rgo_typed.specs.Tree.{terms_of}
use Rattle.rgo_typed.specs.Views.{term_of}
use Rattle.rgo_lower.specs.Emitted.{made_of}
use Rattle.rgo_lower.proofs.Growing.{ok_map}
use Rattle.rgo_lower.proofs.StmtParts.{print_emitted}
use Rattle.rgo_lower.proofs.statements.print.Goals as goal

pub returns : goal.returns
returns c =
    let a = made_of c.args.b.now in
    let b = made_of c.lower_terms.new.b in
    let e = made_of c.print.new.self in
    ok_map c.print.result _ _
    (λ h l. print_emitted c.args.pieces.now (terms_of
    (map term_of c.args.values.now.items)) c.args.place c.in_ok-from.from.items l a b e
    c.in_ok-from.ensures h) c.print.ensures
