use Rattle.std.proofs.Common.{take}
use Rattle.std.specs.List.{Contains}
use Rattle.rgo_region_sets.specs.Asked.{IsDead}
use Rattle.rgo_region_sets.specs.Sets.{IsSet}
use Rattle.rgo_region_sets.proofs.removed.dead.Given as goal

abbrev pub invariant-loop-name : goal.invariant-loop-name
invariant-loop-name l =
    IsSet l.dead.items (λ k. Contains (take l.name-index l.names) k × IsDead l.f l.gives l.next k)
