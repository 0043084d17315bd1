use Rattle.std.proofs.Common.{◌↔◌, ℕ, take}
use Rattle.std.specs.List.{Contains}
use Rattle.rgo_tac.specs.declared.regions.Class.TheVariants.{Name}
use Rattle.rgo_region_sets.specs.Asked.{IsMissing}
use Rattle.rgo_region_sets.proofs.entry.entry_removals.Given as goal

abbrev pub invariant-loop-class : goal.invariant-loop-class
invariant-loop-class l =
    (k : ℕ) → Contains l.names.items k
    ↔ (Contains (take l.class-index l.class-items) (Name k) × IsMissing l.f 0 k)
