use Rattle.rgo_checker.proofs.Deciding.{always}
use Rattle.rgo_checker.proofs.decides.PassingLaws.{target_decided, no_target}
use Rattle.rgo_checker.proofs.passing.target_passes.Goals as goal

pub returns-in-Some : goal.returns-in-Some
returns-in-Some c =
    target_decided c.args.f.now c.args.callee.now c.args.parameters.now.classes.items c.args.passes.now
    c.result_class.result c.class_of.result c.is_passed_for.result c.is_passed_for.ensures c.args.to c.in-Some.d
    c.in-Some.is c.result_class.ensures c.class_of.ensures

pub returns-in-None : goal.returns-in-None
returns-in-None c =
    always (no_target c.args.f.now c.args.callee.now c.args.parameters.now.classes.items c.args.passes.now c.args.to
    c.in-None.is)
