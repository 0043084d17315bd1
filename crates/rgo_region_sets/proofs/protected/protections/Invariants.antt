use Rattle.std.proofs.Common.{◌↔◌, ℕ, take}
use Rattle.std.specs.List.{Contains}
use Rattle.rgo_region_sets.specs.Asked.{Protects}
use Rattle.rgo_region_sets.specs.Seen.{IsSeen}
use Rattle.rgo_region_sets.proofs.protected.protections.Given as goal

abbrev pub invariant-loop-class : goal.invariant-loop-class
invariant-loop-class l =
    record {
      names : (k : ℕ) → Contains l.names.items k ↔ Protects l.f l.at (take l.class-index l.passes) k;
      sees : IsSeen l.seen (take l.class-index l.passes);
    }
