use Rattle.std.proofs.Common.{◌↔◌, ℕ, take}
use Rattle.std.specs.List.{Contains}
use Rattle.rgo_region_sets.specs.Asked.{IsNamePassedFor}
use Rattle.rgo_region_sets.proofs.given.passed_for.Given as goal

abbrev pub invariant-loop-at : goal.invariant-loop-at
invariant-loop-at l =
    (k : ℕ) → Contains l.names.items k ↔ IsNamePassedFor l.regions l.result_class (take l.at l.passes) k
