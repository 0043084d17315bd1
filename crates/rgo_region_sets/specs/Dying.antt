-- Names that are live into a branch and not into one of its targets.
use Rattle.std.specs.Prelude.{◌≡◌, ◌<◌, ◌≤◌, ℕ, List, length, Contains, slice_index}
use Rattle.rgo_region_sets.specs.declared.spans.Span.{Span}
use Rattle.rgo_region_sets.specs.Spans.{IsSpanned}

-- the points from `first` on and before `end` are those that are in the span
pub record AreInSpan (points : List ℕ) (span : Span) (first end : ℕ) : Type 0 where
  pub bound : end ≤ length points
  pub inside : (b : ℕ) → first ≤ b → b < end → (span.from ≤ slice_index points b) × (slice_index points b ≤ span.to)
  pub only : (b : ℕ) → b < length points → span.from ≤ slice_index points b → slice_index points b ≤ span.to
      → (first ≤ b) × (b < end)

-- the span has branch b, whose target is in no span of the name
pub record Dies (spans : List Span) (points targets : List ℕ) (span : Span) (b : ℕ) : Type 0 where
  pub branch : b < length points
  pub from : span.from ≤ slice_index points b
  pub to : slice_index points b ≤ span.to
  pub dead : IsSpanned spans span.name (slice_index targets b) → ⊥

-- a span of name k has branch b, whose target is in no span of that name
abbrev pub DiesAt : List Span → (points targets : List ℕ) → (b k : ℕ) → Type 0
DiesAt spans points targets b k =
    (span : Span) × Contains spans span × (span.name ≡ k) × Dies spans points targets span b
