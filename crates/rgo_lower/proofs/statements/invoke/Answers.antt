use Rattle.std.proofs.Common.{map}
use Rattle.rgo_typed.specs.Tree.{terms_of}
use Rattle.rgo_typed.specs.Views.{term_of}
use Rattle.rgo_lower.specs.Emitted.{made_of}
use Rattle.rgo_lower.proofs.Growing.{ok_map}
use Rattle.rgo_lower.proofs.StmtParts.{invoke_emitted}
use Rattle.rgo_lower.proofs.statements.invoke.Goals as goal

pub returns : goal.returns
returns c =
    let a = made_of c.args.b.now in
    let b = made_of c.lower_terms.new.b in
    let e = made_of c.invoke.new.self in
    ok_map c.invoke.result _ _
    (λ h l. invoke_emitted c.args.function (terms_of
    (map term_of c.args.arguments.now.items)) c.args.place c.in_ok-from.from.items l a b e
    c.in_ok-from.ensures h) c.invoke.ensures
