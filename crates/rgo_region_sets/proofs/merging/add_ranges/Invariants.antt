use Rattle.std.proofs.Common.{◌≡◌, take}
use Rattle.rgo_flow.specs.Ranges.{IsCovered}
use Rattle.rgo_region_sets.specs.Spans.{AddsSpans}
use Rattle.rgo_region_sets.proofs.merging.add_ranges.Given as goal

abbrev pub invariant-loop-range : goal.invariant-loop-range
invariant-loop-range l =
    AddsSpans l.fn.spans.items l.spans.items (λ k at. (k ≡ l.name) × IsCovered (take l.range-index l.ranges) at)
