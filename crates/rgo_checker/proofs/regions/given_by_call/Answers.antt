use Rattle.std.proofs.Common.{◌∙◌, sym, subst}
use Rattle.rgo_region_sets.specs.Asked.{IsGiven}
use Rattle.rgo_region_sets.specs.Sets.{IsSet}
use Rattle.rgo_checker.proofs.Deciding.{on_ok}
use Rattle.rgo_checker.proofs.regions.given_by_call.Goals as goal

pub returns-in-Some : goal.returns-in-Some
returns-in-Some c =
    on_ok c.gives.result _ _
    (λ names s. subst (λ o. IsSet names.items (IsGiven o c.args.passes.now c.args.protects.now))
    (sym c.in-Some.is ∙ c.function.ensures) s)
    c.gives.ensures

pub returns-in-None : goal.returns-in-None
returns-in-None c =
    on_ok c.gives-in-None.result _ _
    (λ names s. subst (λ o. IsSet names.items (IsGiven o c.args.passes.now c.args.protects.now))
    (sym c.in-None.is ∙ c.function.ensures) s)
    c.gives-in-None.ensures
