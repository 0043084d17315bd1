use Rattle.std.proofs.Common.{◌↔◌, ℕ, take}
use Rattle.std.specs.List.{Contains}
use Rattle.rgo_tac.specs.declared.regions.Class.TheVariants.{Name}
use Rattle.rgo_region_sets.specs.Asked.{IsInNeither}
use Rattle.rgo_region_sets.proofs.given.gives.Given as goal

abbrev pub invariant-loop-class : goal.invariant-loop-class
invariant-loop-class l =
    (k : ℕ) → Contains l.names.items k
    ↔ (Contains (take l.class-index l.passes) (Name k) × IsInNeither l.protects l.lent.items k)
