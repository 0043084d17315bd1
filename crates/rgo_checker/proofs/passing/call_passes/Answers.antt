use Rattle.std.proofs.Common.{◌∙◌, sym, subst}
use Rattle.std.specs.Bool.{Decides}
use Rattle.rgo_code.specs.ClassRules.{CallPasses}
use Rattle.rgo_checker.proofs.Deciding.{always, on_ok}
use Rattle.rgo_checker.proofs.passing.call_passes.Goals as goal

pub returns-in-Some : goal.returns-in-Some
returns-in-Some c =
    on_ok c.passes_right.result _ _
    (λ b d. subst (λ o. Decides b (CallPasses c.args.f.now o c.args.call.to c.args.call.from.now c.args.passes.now))
    (sym c.in-Some.is ∙ c.function.ensures) d)
    c.passes_right.ensures

pub returns-in-None : goal.returns-in-None
returns-in-None c =
    always (subst (λ o. CallPasses c.args.f.now o c.args.call.to c.args.call.from.now c.args.passes.now)
    (sym c.in-None.is ∙ c.function.ensures) tt)
