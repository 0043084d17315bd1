use Rattle.std.proofs.Common.{◌↔◌, ◌<◌, ℕ}
use Rattle.std.specs.List.{Contains}
use Rattle.rgo_region_sets.specs.Dying.{Dies}
use Rattle.rgo_region_sets.proofs.dying.ends_of.Given as goal

abbrev pub invariant-loop-b : goal.invariant-loop-b
invariant-loop-b l =
    (j : ℕ) → Contains l.ends.items j ↔ ((j < l.b) × Dies l.spans l.points l.targets l.span j)
