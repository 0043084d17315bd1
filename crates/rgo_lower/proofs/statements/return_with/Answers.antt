use Rattle.std.proofs.Common.{sym, subst}
use Rattle.rgo_typed.specs.Tree as tree
use Rattle.rgo_typed.specs.Tree.{Term}
use Rattle.rgo_typed.specs.Views.{term_of, boxed_term_of}
use Rattle.rgo_lower.specs.Emitted.{made_of, IsEmitted, TermIsEmitted}
use Rattle.rgo_lower.proofs.Growing.{ok_map}
use Rattle.rgo_lower.proofs.StmtParts.{return_emitted}
use Rattle.rgo_lower.proofs.statements.return_with.Goals as goal

pub returns-in_ok-d-in-Some : goal.returns-in_ok-d-in-Some
returns-in_ok-d-in-Some c =
    let a = made_of c.args.b.now in
    let b = made_of c.lower_term.new.b in
    let e = made_of c.return_from.new.self in
    let d = c.in_ok-d-in-Some.d in
    let value = c.in-Some.term.value in
    let term : TermIsEmitted (term_of value) a d b =
    subst (λ z. TermIsEmitted (term_of z) a d b) c.deref.ensures c.in_ok-d-in-Some.ensures in
    ok_map c.return_from.result _ _
    (λ h l. subst (λ z. IsEmitted (tree.Return (boxed_term_of z) c.args.place) a e) (sym c.in-Some.is)
    (λ m. return_emitted (term_of value) c.args.place d m a b e term h) l) c.return_from.ensures
