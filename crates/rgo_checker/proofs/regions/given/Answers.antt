use Rattle.std.proofs.Common.{◌∙◌, None, sym, subst}
use Rattle.rgo_region_sets.specs.Sets.{IsSet}
use Rattle.rgo_checker.specs.Regions.{GivenTo}
use Rattle.rgo_checker.proofs.Deciding.{on_ok}
use Rattle.rgo_checker.proofs.decides.RegionLaws.{empty_set}
use Rattle.rgo_checker.proofs.regions.given.Goals as goal

pub returns-in-Some : goal.returns-in-Some
returns-in-Some c =
    on_ok c.given_by_call.result _ _
    (λ names s. subst (λ o. IsSet names.items (GivenTo c.args.code.now o c.args.passes.now c.args.protects.now))
    (sym c.in-Some.is ∙ c.callee_of.ensures) s)
    c.given_by_call.ensures

pub returns-in-None : goal.returns-in-None
returns-in-None c =
    subst (λ o. IsSet c.new.result.items (GivenTo c.args.code.now o c.args.passes.now c.args.protects.now))
    (sym c.in-None.is ∙ c.callee_of.ensures)
    (empty_set c.new.result.items (GivenTo c.args.code.now None c.args.passes.now c.args.protects.now)
    c.new.ensures.items (λ k h. h))
