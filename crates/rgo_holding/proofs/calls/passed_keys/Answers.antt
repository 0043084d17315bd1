use Rattle.std.proofs.Common.{ap, map, ◌∙◌}
use Rattle.std.proofs.lemmas.List.{take_all}
use Rattle.rgo_holding.specs.Passing.{class_key}
use Rattle.rgo_holding.proofs.calls.passed_keys.Goals as goal

pub returns : goal.returns
returns c =
    c.loop-class.invariant
    ∙ ap (map (class_key c.args.callers.now)) (take_all c.loop-class.class-index c.args.passes.now c.loop-class-test.false)
