use Rattle.std.proofs.Common.{◌≡◌, map, take}
use Rattle.rgo_holding.specs.Passing.{class_key}
use Rattle.rgo_holding.proofs.calls.passed_keys.Given as goal

abbrev pub invariant-loop-class : goal.invariant-loop-class
invariant-loop-class l = l.keys.items ≡ map (class_key l.callers) (take l.class-index l.passes)
