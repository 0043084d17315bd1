use Rattle.std.proofs.Common.{◌∙◌, ◌&&◌, slice_get, sym, subst}
use Rattle.std.specs.Bool.{Decides}
use Rattle.rgo_code.specs.ClassRules.{StartPasses}
use Rattle.rgo_checker.proofs.Deciding.{always}
use Rattle.rgo_checker.proofs.decides.PassingLaws.{start_decided}
use Rattle.rgo_checker.proofs.passing.start_passes.Goals as goal

pub returns-in_ok-passed-in-Some : goal.returns-in_ok-passed-in-Some
returns-in_ok-passed-in-Some c =
    let f = c.args.f.now in
    let from = c.args.call.from.now in
    let passes = c.args.passes.now in
    let found = slice_get c.args.code.now.functions c.args.call.function in
    let none = c.has_no_result.result in
    let passed = c.in_ok-passed-in-Some.passed in
    subst (λ b. Decides b (StartPasses f found from passes)) (sym c.both.ensures)
    (subst (λ o. Decides (none && passed) (StartPasses f o from passes)) (sym c.in-Some.is ∙ c.function.ensures)
    (start_decided f c.in-Some.callee from passes none passed c.has_no_result.ensures c.in_ok-passed-in-Some.ensures))

pub returns-in-None : goal.returns-in-None
returns-in-None c =
    always (subst (λ o. StartPasses c.args.f.now o c.args.call.from.now c.args.passes.now)
    (sym c.in-None.is ∙ c.function.ensures) tt)
