-- The spans of all variables, and the same spans merged.
use Rattle.std.proofs.Common.{◌≡◌, ◌⊎◌, ⊎_elim, inl, inr, ◌<◌, ◌≤◌, ◌+◌, ℕ, List, [], Option, Some, None, length, take, get_or, slice_get, refl, sym, ap, subst, ◌∙◌, arith}
use Rattle.std.specs.Prelude.{◌↔◌}
use Rattle.std.proofs.lemmas.Option.{none-some, slice_get_within, slice_get-get_or}
use Rattle.std.proofs.lemmas.List.{take_all}
use Rattle.rgo_tac.specs.declared.regions.Class.TheVariants.{Name}
use Rattle.rgo_flow.specs.Live.{Live}
use Rattle.rgo_flow.specs.Ranges.{IsCovered}
use Rattle.rgo_flow.specs.Table.{IsLive}
use Rattle.rgo_flow.specs.declared.ranges.Range.{Range}
use Rattle.rgo_flow.specs.declared.table.Liveness.{Liveness}
use Rattle.rgo_code.specs.Code.{Slot, CodeFn}
use Rattle.rgo_code.specs.Erasure.{erased_fn}
use Rattle.rgo_code.specs.Names.{slot_class, class_of, IsLiveName}
use Rattle.rgo_region_sets.specs.declared.spans.Span.{Span}
use Rattle.rgo_region_sets.specs.Spans.{Spans, IsSpanned, AddsSpans, IsNamed, Precedes, AreOrdered, AreApart, SpanFollows}
use Rattle.rgo_region_sets.specs.Used.{name_of}
use Rattle.rgo_region_sets.proofs.Members.{spanned_later, spanned_here, spanned_cases}
use Rattle.rgo_region_sets.proofs.Naming.{name_is, one_name, no_name}
use Rattle.rgo_region_sets.proofs.Spanning.{none_spanned, adds_as, adds_none}

less_or : (a b : ℕ) → (a < b) ⊎ (b ≤ a)
less_or a b = grind arith

-- ---- one variable

module _ (f : CodeFn) (liveness : Liveness) (v : ℕ) where
  pub variable_added : (old new : List Span) (j : ℕ) (ranges : List Range) → name_of (class_of f v) ≡ Some j
      → ((at : ℕ) → IsCovered ranges at ↔ IsLive liveness v at)
      → AddsSpans old new (λ k at. (k ≡ j) × IsCovered ranges at) → AddsSpans old new (IsNamed f liveness v)
  variable_added old new j ranges named live adds =
      adds_as old new (λ k at. (k ≡ j) × IsCovered ranges at) (IsNamed f liveness v)
      (λ k at. (
        λ h. (name_is (class_of f v) k (named ∙ ap Some (sym h.0)), (live at).0 h.1),
        λ h. (one_name (class_of f v) j k named h.0, (live at).1 h.1),
      )) adds

  pub variable_skipped : (spans : List Span) → name_of (class_of f v) ≡ None
      → AddsSpans spans spans (IsNamed f liveness v)
  variable_skipped spans none = adds_none spans (IsNamed f liveness v) (λ k at h. no_name (class_of f v) k none h.0)

-- ---- all variables

module _ (f : CodeFn) (liveness : Liveness) where
  pub no_variables : (k at : ℕ) → IsSpanned [] k at ↔ ((v : ℕ) × (v < 0) × IsNamed f liveness v k at)
  no_variables k at = (λ h. absurd (none_spanned k at h), λ h. absurd (omega (arith, h.1)))

  pub variables_more : (old new : List Span) (n : ℕ)
      → ((k at : ℕ) → IsSpanned old k at ↔ ((v : ℕ) × (v < n) × IsNamed f liveness v k at))
      → AddsSpans old new (IsNamed f liveness n)
      → (k at : ℕ) → IsSpanned new k at ↔ ((v : ℕ) × (v < n + 1) × IsNamed f liveness v k at)
  variables_more old new n before adds k at = (
    λ h. ⊎_elim
        (λ o. let b = (before k at).0 o in (b.0, omega (arith, b.1), b.2))
        (λ m. (n, omega arith, m))
        ((adds k at).0 h),
    λ h. (adds k at).1 (⊎_elim
        (λ l. inl ((before k at).1 (h.0, l, h.2)))
        (λ g.
        let same : h.0 ≡ n = omega (arith, g, h.1) in
        inr (subst (λ u. IsNamed f liveness u k at) same h.2))
        (less_or h.0 n)),
  )

  -- a variable with a name exists
  named_inside : (slots : List Slot) (v k : ℕ) (found : Option Slot) → slice_get slots v ≡ found
      → slot_class found ≡ Name k → v < length slots
  named_inside slots v k None is named = cc
  named_inside slots v k (Some s) is named = slice_get_within slots v s is

  pub all_variables : (spans : List Span) (n : ℕ) → length f.variables ≤ n
      → ((v at : ℕ) → IsLive liveness v at ↔ Live (erased_fn f) v at)
      → ((k at : ℕ) → IsSpanned spans k at ↔ ((v : ℕ) × (v < n) × IsNamed f liveness v k at))
      → (k at : ℕ) → IsSpanned spans k at ↔ IsLiveName f k at
  all_variables spans n past live all k at = (
    λ h. let v = (all k at).0 h in record { variable = v.0; named = v.2.0; live = (live v.0 at).0 v.2.1 },
    λ h. (all k at).1 (
      h.variable,
      omega (arith, past, named_inside f.variables h.variable k (slice_get f.variables h.variable) refl h.named),
      (h.named, (live h.variable at).1 h.live),
    ),
  )

-- ---- merging in order

pub none_apart : AreApart []
none_apart i j a b less at_i at_j = absurd (none-some a at_i)

pub none_merged : (k at : ℕ) → IsSpanned [] k at ↔ IsSpanned [] k at
none_merged k at = (λ h. h, λ h. h)

pub none_follows : (next : Span) → SpanFollows [] next
none_follows next a e = absurd (none-some a e)

pub merged_more : (spans old new : List Span) (i : ℕ) (d : Span) → i < length spans
    → ((k at : ℕ) → IsSpanned old k at ↔ IsSpanned (take i spans) k at)
    → AddsSpans old new (Spans (get_or spans i d))
    → (k at : ℕ) → IsSpanned new k at ↔ IsSpanned (take (i + 1) spans) k at
merged_more spans old new i d within before adds k at = (
  λ h. ⊎_elim
      (λ o. spanned_later spans i d within k at ((before k at).0 o))
      (λ n. spanned_here spans i d within k at n)
      ((adds k at).0 h),
  λ h. (adds k at).1 (⊎_elim
      (λ o. inl ((before k at).1 o))
      (λ n. inr n)
      (spanned_cases spans i d within k at h)),
)

pub merged_all : (spans merged : List Span) (i : ℕ) → length spans ≤ i
    → ((k at : ℕ) → IsSpanned merged k at ↔ IsSpanned (take i spans) k at)
    → (k at : ℕ) → IsSpanned merged k at ↔ IsSpanned spans k at
merged_all spans merged i past h =
    subst (λ (l : List Span). (k at : ℕ) → IsSpanned merged k at ↔ IsSpanned l k at) (take_all i spans past) h

-- the next span comes after this one
pub next_precedes : (spans : List Span) (i : ℕ) (d next : Span) → i < length spans → AreOrdered spans
    → slice_get spans (i + 1) ≡ Some next → Precedes (get_or spans i d) next
next_precedes spans i d next within ordered is =
    ordered i (get_or spans i d) next (slice_get-get_or spans i d within) is
