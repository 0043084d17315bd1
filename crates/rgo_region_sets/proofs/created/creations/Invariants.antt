use Rattle.std.proofs.Common.{take}
use Rattle.std.specs.List.{Contains}
use Rattle.rgo_region_sets.specs.Asked.{IsMissing}
use Rattle.rgo_region_sets.specs.Sets.{IsSet}
use Rattle.rgo_region_sets.proofs.created.creations.Given as goal

abbrev pub invariant-loop-name : goal.invariant-loop-name
invariant-loop-name l =
    IsSet l.names.items (λ k. Contains (take l.name-index l.name-items) k × IsMissing l.f l.at k)
