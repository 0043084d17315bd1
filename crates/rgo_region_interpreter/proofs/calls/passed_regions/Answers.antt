use Rattle.std.proofs.Common.{◌∙◌, ap, map}
use Rattle.std.proofs.lemmas.List.{take_all}
use Rattle.rgo_region_interpreter.specs.Calls.{class_region_in}
use Rattle.rgo_region_interpreter.proofs.passing.Lists.{regions_same}
use Rattle.rgo_region_interpreter.proofs.calls.passed_regions.Goals as goal

pub returns : goal.returns
returns c = λ bindings same.
    c.loop-class.invariant.2
    ∙ ap (map (class_region_in c.args.names.now)) (take_all c.loop-class.class-index c.args.passes.now c.loop-class-test.false)
    ∙ regions_same c.args.names.now bindings same c.args.passes.now
