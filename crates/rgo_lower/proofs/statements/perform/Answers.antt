use Rattle.std.proofs.Common.{◌≡◌, None, map, subst}
use Rattle.rgo_typed.specs.Tree.{terms_of}
use Rattle.rgo_typed.specs.Views.{term_of}
use Rattle.rgo_tac.specs.Code.{Do}
use Rattle.rgo_lower.specs.Emitted.{made_of, OpIsAdded, always}
use Rattle.rgo_lower.proofs.Growing.{ok_map}
use Rattle.rgo_lower.proofs.StmtParts.{perform_emitted}
use Rattle.rgo_lower.proofs.statements.perform.Goals as goal

pub returns : goal.returns
returns c =
    let a = made_of c.args.b.now in
    let b = made_of c.lower_terms.new.b in
    let e = made_of c.act.new.self in
    let from = c.in_ok-from.from.items in
    let same : c.deref.result.now ≡ from = c.deref.ensures.value in
    ok_map c.act.result _ _
    (λ h l. perform_emitted c.args.action (terms_of (map term_of c.args.operands.now.items)) c.args.place from l a b e
    c.in_ok-from.ensures (subst (λ z. OpIsAdded b (always (Do None c.args.action z)) c.args.place e) same h))
    c.act.ensures
