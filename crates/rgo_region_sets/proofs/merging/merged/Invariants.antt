use Rattle.std.proofs.Common.{◌≡◌, ◌↔◌, ℕ, Some, slice_get, take}
use Rattle.rgo_region_sets.specs.declared.spans.Span.{Span}
use Rattle.rgo_region_sets.specs.Spans.{AreApart, SpanFollows, IsSpanned}
use Rattle.rgo_region_sets.proofs.merging.merged.Given as goal

abbrev pub invariant-loop-span : goal.invariant-loop-span
invariant-loop-span l =
    record {
      apart : AreApart l.merged.items;
      same : (k at : ℕ) → IsSpanned l.merged.items k at ↔ IsSpanned (take l.span-index l.spans) k at;
      follows : (next : Span) → slice_get l.spans l.span-index ≡ Some next → SpanFollows l.merged.items next;
    }
