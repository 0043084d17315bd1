-- Which names and instructions lists of spans have.
use Rattle.std.proofs.Common.{◌≡◌, ◌⊎◌, ⊎_elim, inl, inr, ◌<◌, ◌≤◌, ◌+◌, ℕ, List, [], ◌∷◌, ◌++◌, length, take, get_or, sym, subst, arith}
use Rattle.std.specs.Prelude.{◌↔◌}
use Rattle.std.proofs.lemmas.List.Elements.{Contains-push, Contains-push_cases, Contains-append_left, Contains-append_right, Contains-append_cases}
use Rattle.rgo_graphs.proofs.Lists.{no_member, member_one, one_member, take_cases, take_more_left, take_more_here}
use Rattle.rgo_flow.specs.declared.ranges.Range.{Range}
use Rattle.rgo_flow.specs.Ranges.{IsCovered, IsInside}
use Rattle.rgo_region_sets.specs.declared.spans.Span.{Span}
use Rattle.rgo_region_sets.specs.Spans.{Spans, IsSpanned, AddsSpans}

pub none_spanned : (k at : ℕ) → IsSpanned [] k at → ⊥
none_spanned k at h = no_member h.span h.among

-- ---- a span more

module _ (spans : List Span) (s : Span) (k at : ℕ) where
  pub still : IsSpanned spans k at → IsSpanned (spans ++ s ∷ []) k at
  still h = record {
    span = h.span;
    among = Contains-append_left spans (s ∷ []) h.span h.among;
    spans = h.spans;
  }

  pub now : Spans s k at → IsSpanned (spans ++ s ∷ []) k at
  now h = record { span = s; among = Contains-push spans s; spans = h }

  pub either : IsSpanned (spans ++ s ∷ []) k at → IsSpanned spans k at ⊎ Spans s k at
  either h = ⊎_elim
      (λ among. inl (record { span = h.span; among = among; spans = h.spans }))
      (λ same. inr (subst (λ x. Spans x k at) (sym same) h.spans))
      (Contains-push_cases spans s h.span h.among)

pub pushed : (spans : List Span) (s : Span) → AddsSpans spans (spans ++ s ∷ []) (Spans s)
pushed spans s k at = (
  λ h. either spans s k at h,
  λ h. ⊎_elim (λ o. still spans s k at o) (λ n. now spans s k at n) h,
)

-- one change after the other
pub then_adds : (old mid new : List Span) (P Q : ℕ → ℕ → Type 0) → AddsSpans old mid P → AddsSpans mid new Q
    → AddsSpans old new (λ k at. P k at ⊎ Q k at)
then_adds old mid new P Q first second k at = (
  λ h. ⊎_elim
      (λ m. ⊎_elim (λ o. inl o) (λ p. inr (inl p)) ((first k at).0 m))
      (λ q. inr (inr q))
      ((second k at).0 h),
  λ h. (second k at).1 (⊎_elim
      (λ o. inl ((first k at).1 (inl o)))
      (λ pq. ⊎_elim (λ p. inl ((first k at).1 (inr p))) (λ q. inr q) pq)
      h),
)

pub adds_as : (old new : List Span) (P Q : ℕ → ℕ → Type 0) → ((k at : ℕ) → P k at ↔ Q k at)
    → AddsSpans old new P → AddsSpans old new Q
adds_as old new P Q same h k at = (
  λ s. ⊎_elim (λ o. inl o) (λ p. inr ((same k at).0 p)) ((h k at).0 s),
  λ s. (h k at).1 (⊎_elim (λ o. inl o) (λ q. inr ((same k at).1 q)) s),
)

pub adds_none : (spans : List Span) (P : ℕ → ℕ → Type 0) → ((k at : ℕ) → P k at → ⊥) → AddsSpans spans spans P
adds_none spans P none k at = (λ h. inl h, λ h. ⊎_elim (λ o. o) (λ p. absurd (none k at p)) h)

-- ---- the ranges of a variable

pub covered_more : (ranges : List Range) (i : ℕ) (d : Range) (at : ℕ) → i < length ranges
    → IsCovered (take (i + 1) ranges) at ↔ (IsCovered (take i ranges) at ⊎ IsInside at (get_or ranges i d))
covered_more ranges i d at within = (
  λ h. ⊎_elim
      (λ among. inl (record { range = h.range; among = among; inside = h.inside }))
      (λ same. inr (subst (IsInside at) (sym same) h.inside))
      (take_cases ranges i d h.range within h.among),
  λ h. ⊎_elim
      (λ c. record { range = c.range; among = take_more_left ranges i d c.range within c.among; inside = c.inside })
      (λ n. record { range = get_or ranges i d; among = take_more_here ranges i d within; inside = n })
      h,
)

pub ranges_more : (old mid new : List Span) (name : ℕ) (ranges : List Range) (i : ℕ) (d : Range) (s : Span)
    → i < length ranges → s ≡ record { name = name; from = (get_or ranges i d).from; to = (get_or ranges i d).to }
    → AddsSpans old mid (λ k at. (k ≡ name) × IsCovered (take i ranges) at) → AddsSpans mid new (Spans s)
    → AddsSpans old new (λ k at. (k ≡ name) × IsCovered (take (i + 1) ranges) at)
ranges_more old mid new name ranges i d s within is before after =
    adds_as old new (λ k at. ((k ≡ name) × IsCovered (take i ranges) at) ⊎ Spans s k at)
    (λ k at. (k ≡ name) × IsCovered (take (i + 1) ranges) at)
    (λ k at. (
      λ h. ⊎_elim
          (λ c. (c.0, (covered_more ranges i d at within).1 (inl c.1)))
          (λ n.
          let m = subst (λ x. Spans x k at) is n in
          (sym m.0, (covered_more ranges i d at within).1 (inr (m.1, m.2))))
          h,
      λ h. ⊎_elim
          (λ c. inl (h.0, c))
          (λ n. inr (subst (λ x. Spans x k at) (sym is) (sym h.0, n.0, n.1)))
          ((covered_more ranges i d at within).0 h.1),
    ))
    (then_adds old mid new (λ k at. (k ≡ name) × IsCovered (take i ranges) at) (Spans s) before after)

-- ---- is decided

less_or : (a b : ℕ) → (a < b) ⊎ (b ≤ a)
less_or a b = grind arith

same_or : (a b : ℕ) → (a ≡ b) ⊎ (a ≡ b → ⊥)
same_or a b = grind arith

spans_or : (s : Span) (k at : ℕ) → Spans s k at ⊎ (Spans s k at → ⊥)
spans_or s k at = ⊎_elim
    (λ e. ⊎_elim
    (λ l. inr (λ h. omega (arith, l, h.1)))
    (λ f. ⊎_elim (λ l. inr (λ h. omega (arith, l, h.2))) (λ t. inl (e, f, t)) (less_or s.to at))
    (less_or at s.from))
    (λ n. inr (λ h. n h.0))
    (same_or s.name k)

pub spanned_or : (spans : List Span) (k at : ℕ) → IsSpanned spans k at ⊎ (IsSpanned spans k at → ⊥)
spanned_or [] k at = inr (none_spanned k at)
spanned_or (s ∷ spans) k at = ⊎_elim
    (λ h. inl (record { span = s; among = Contains-append_left (s ∷ []) spans s (one_member s); spans = h }))
    (λ n. ⊎_elim
    (λ h. inl (record { span = h.span; among = Contains-append_right (s ∷ []) spans h.span h.among; spans = h.spans }))
    (λ m. inr (λ h. ⊎_elim
    (λ o. n (subst (λ x. Spans x k at) (member_one s h.span o) h.spans))
    (λ r. m (record { span = h.span; among = r; spans = h.spans }))
    (Contains-append_cases (s ∷ []) spans h.span h.among)))
    (spanned_or spans k at))
    (spans_or s k at)
