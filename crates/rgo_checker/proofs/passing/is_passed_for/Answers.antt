use Rattle.std.proofs.Common.{sym, subst}
use Rattle.std.specs.Bool.{Decides}
use Rattle.rgo_code.specs.ClassRules.{IsPassedFor}
use Rattle.rgo_checker.proofs.decides.PassingLaws.{passed_for_decided}
use Rattle.rgo_checker.proofs.passing.is_passed_for.Goals as goal

pub returns : goal.returns
returns c =
    let p = c.args.parameters.now in
    subst (λ b. Decides b (IsPassedFor p.classes.items c.args.passes.now c.args.parameter c.args.argument))
    (sym c.is_passed_by.ensures)
    (passed_for_decided p.classes.items c.args.passes.now p.places p.placed p.distinct c.args.parameter c.args.argument)
