use Rattle.std.proofs.Common.{◌∙◌, ap}
use Rattle.rgo_checker.specs.ClassTests.{result_fits}
use Rattle.rgo_checker.proofs.walks.WalkLaws.{head_walked}
use Rattle.rgo_checker.proofs.walking.walk_head.Goals as goal

pub returns : goal.returns
returns c = λ n here.
    head_walked c.args.code.now n c.args.f.now here c.args.scan.now c.pass_classes.new.scan c.result_fits-kept.result
    (c.result_fits-kept.ensures
    ∙ (λ j. result_fits (c.result_class.ensures j)
    ((c.result_type.ensures ∙ ap (λ x. x.result_type) c.tac.ensures) j)))
    c.pass_classes.ensures
