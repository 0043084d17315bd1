use Rattle.std.proofs.Common.{◌≡◌, ◌≤◌, length, map, take}
use Rattle.std.specs.Vec.{vec_capacity}
use Rattle.rgo_region_interpreter.specs.Calls.{class_region_in}
use Rattle.rgo_region_interpreter.proofs.calls.passed_regions.Given as goal

abbrev pub invariant-loop-class : goal.invariant-loop-class
invariant-loop-class l =
    (length l.regions.items ≡ l.class-index)
    × (length l.passes ≤ vec_capacity l.regions)
    × (l.regions.items ≡ map (class_region_in l.names) (take l.class-index l.passes))
