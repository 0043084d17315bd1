-- Spans of instructions in which names are live.
use Rattle.std.specs.Prelude.{◌≡◌, ◌<◌, ◌≤◌, ◌+◌, ◌-◌, ◌⊎◌, ◌↔◌, ⊤, ℕ, Bool, true, false, List, length, Contains, slice_get, Some}
use Rattle.rgo_tac.specs.declared.regions.Class.TheVariants.{Name}
use Rattle.rgo_flow.specs.declared.table.Liveness.{Liveness}
use Rattle.rgo_flow.specs.Table.{IsLive}
use Rattle.rgo_code.specs.Code.{CodeFn}
use Rattle.rgo_code.specs.Names.{class_of}
use Rattle.rgo_region_sets.specs.declared.spans.Span.{Span}

abbrev pub Spans : Span → (k at : ℕ) → Type 0
Spans s k at = (s.name ≡ k) × (s.from ≤ at) × (at ≤ s.to)

-- one of the spans is of this name and has this instruction
pub record IsSpanned (list : List Span) (k at : ℕ) : Type 0 where
  pub span : Span
  pub among : Contains list span
  pub spans : Spans span k at

-- the new spans have what the old ones have, and these
abbrev pub AddsSpans : List Span → List Span → (ℕ → ℕ → Type 0) → Type 0
AddsSpans old new These = (k at : ℕ) → IsSpanned new k at ↔ (IsSpanned old k at ⊎ These k at)

-- where a variable with this name is live
abbrev pub IsNamed : CodeFn → Liveness → (variable k at : ℕ) → Type 0
IsNamed f liveness variable k at = (class_of f variable ≡ Name k) × IsLive liveness variable at

-- ---- the order by name, then by first instruction

abbrev pub Precedes : Span → Span → Type 0
Precedes a b = (a.name ≤ b.name) × (a.name ≡ b.name → a.from ≤ b.from)

-- each span precedes the next one
abbrev pub AreOrdered : List Span → Type 0
AreOrdered spans =
    (i : ℕ) (a b : Span) → slice_get spans i ≡ Some a → slice_get spans (i + 1) ≡ Some b → Precedes a b

-- they are of different names, or do not overlap
abbrev pub IsSpanBefore : Span → Span → Type 0
IsSpanBefore a b = (a.name ≤ b.name) × (a.name ≡ b.name → (a.from ≤ b.from) × (a.to < b.from))

-- so at most one span may have an instruction, the last one that has begun: a binary search finds it
abbrev pub AreApart : List Span → Type 0
AreApart spans =
    (i j : ℕ) (a b : Span) → i < j → slice_get spans i ≡ Some a → slice_get spans j ≡ Some b → IsSpanBefore a b

-- the span is of a lesser name, or of this one and begins no later than the instruction
abbrev pub SpanHasBegun : (k at : ℕ) → Span → Type 0
SpanHasBegun k at s = (s.name < k) ⊎ ((s.name ≡ k) × (s.from ≤ at))

-- so are the first spans, up to this number, and no others
pub record AreSpansBegun (spans : List Span) (k at count : ℕ) : Type 0 where
  pub bound : count ≤ length spans
  pub begun : (i : ℕ) (s : Span) → slice_get spans i ≡ Some s → i < count → SpanHasBegun k at s
  pub only : (i : ℕ) (s : Span) → slice_get spans i ≡ Some s → SpanHasBegun k at s → i < count

-- ---- merging

-- the next span begins no later than right after the last one, which has its name; or it does not
abbrev pub SpansMeet : Bool → (last next : Span) → Type 0
SpansMeet true last next = (last.name ≡ next.name) × (next.from ≤ last.to + 1)
SpansMeet false last next = last.name ≡ next.name → last.to < next.from

-- the next span meets the last one, and does not begin before it
abbrev pub Continues : Bool → (last next : Span) → Type 0
Continues true last next = (last.from ≤ next.from) × SpansMeet true last next
Continues false last next = ⊤

-- the last of the spans, if there is one, precedes the next one
abbrev pub SpanFollows : List Span → Span → Type 0
SpanFollows spans next = (a : Span) → slice_get spans (length spans - 1) ≡ Some a → Precedes a next
