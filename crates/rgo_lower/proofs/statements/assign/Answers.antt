use Rattle.std.proofs.Common.{[], ◌∷◌, Some, subst}
use Rattle.rgo_typed.specs.declared.actions.Action.TheVariants.{Copy}
use Rattle.rgo_typed.specs.Views.{term_of}
use Rattle.rgo_tac.specs.Code.{Do}
use Rattle.rgo_lower.specs.Emitted.{made_of, OpIsAdded, always}
use Rattle.rgo_lower.proofs.Growing.{ok_map}
use Rattle.rgo_lower.proofs.StmtParts.{assign_emitted}
use Rattle.rgo_lower.proofs.statements.assign.Goals as goal

pub returns : goal.returns
returns c =
    let a = made_of c.args.b.now in
    let b = made_of c.lower_term.new.b in
    let e = made_of c.copy_to.new.self in
    let d = c.in_ok-d.d in
    ok_map c.copy_to.result _ _
    (λ h l. assign_emitted c.args.n (term_of c.args.value.now) c.args.place d l a b e c.in_ok-d.ensures
    (subst (λ z. OpIsAdded b (always (Do (Some z) Copy (d ∷ []))) c.args.place e) c.variable_of-variable.ensures h))
    c.copy_to.ensures
