use Rattle.std.proofs.Common.{◌∙◌, ap, Bor}
use Rattle.std.specs.Option.{option_map}
use Rattle.std.proofs.lemmas.Result.{IfOk-weaker}
use Rattle.rgo_code.specs.declared.functions.CodeFn.{CodeFn}
use Rattle.rgo_code.specs.Names.{IsPassedForResult}
use Rattle.rgo_region_sets.specs.Asked.{IsNamePassedFor}
use Rattle.rgo_region_sets.specs.Sets.{IsSet}
use Rattle.rgo_region_sets.proofs.Giving.{lent_set}
use Rattle.rgo_region_sets.proofs.given.lent.Goals as goal

pub returns-in_ok-regions-in-Some : goal.returns-in_ok-regions-in-Some
returns-in_ok-regions-in-Some c =
    let callee = option_map (λ (g : Bor CodeFn). g.now) c.args.callee in
    let passes = c.args.passes.now in
    IfOk-weaker c.passed_for.result
    (λ names. IsSet names.items (IsNamePassedFor c.deref.result.now c.result_class.result passes))
    (λ names. IsSet names.items (IsPassedForResult callee passes))
    (λ names set. lent_set c.in-Some.callee.now c.deref.result.now c.result_class.result passes
    (c.deref.ensures.value ∙ c.in_ok-regions-in-Some.ensures) c.result_class.ensures callee names.items
    (ap (option_map (λ (g : Bor CodeFn). g.now)) c.in-Some.is) set)
    c.passed_for.ensures
