use Rattle.std.proofs.Common.{◌↔◌, ℕ, take}
use Rattle.std.specs.List.{Contains}
use Rattle.rgo_code.specs.Names.{IsOwn}
use Rattle.rgo_region_sets.specs.Spans.{IsSpanned}
use Rattle.rgo_region_sets.proofs.entry.holds_at_entry.Given as goal

abbrev pub invariant-loop-span : goal.invariant-loop-span
invariant-loop-span l =
    (k : ℕ) → Contains l.names.items k ↔ (IsOwn l.f k × IsSpanned (take l.span-index l.span-items) k 0)
