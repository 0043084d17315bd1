-- Spans that are sorted by their name and first instruction.
use Rattle.std.proofs.Common.{◌≡◌, ◌⊎◌, ⊎_elim, ◌<◌, ◌≤◌, ◌+◌, ℕ, true, false, cond, nat_lt, ◌==◌, Ordering, Less, Equal, Greater, List, get_or, sym, ap, ◌∙◌, arith}
use Rattle.std.specs.Prelude.{◌↔◌}
use Rattle.std.specs.Ordering.{nat_cmp, ordering_then, is_lt}
use Rattle.std.specs.List.Sorted.{IsSortedByKey, IsPermutation}
use Rattle.std.proofs.lemmas.Bool.{false≢true}
use Rattle.std.proofs.lemmas.Bool.Decides.{nat_tests}
use Rattle.std.proofs.lemmas.List.Sorted.{Contains-permutation, IsPermutation-sym}
use Rattle.std.proofs.lemmas.Option.{slice_get_within, get_or_from_slice_get}
use Rattle.rgo_region_sets.specs.declared.spans.Span.{Span}
use Rattle.rgo_region_sets.specs.Spans.{IsSpanned, Precedes, AreOrdered}

less_or : (a b : ℕ) → (a < b) ⊎ (b ≤ a)
less_or a b = grind arith

abbrev pub key : Span → ℕ × ℕ
key s = (s.name, s.from)

abbrev pub key_cmp : ℕ × ℕ → ℕ × ℕ → Ordering
key_cmp x y = ordering_then (nat_cmp x.0 y.0) (nat_cmp x.1 y.1)

below : (x y : ℕ) → x < y → nat_cmp x y ≡ Less
below x y l = ap (λ t. cond t Less (cond (x == y) Equal Greater)) test where
  test : nat_lt x y ≡ true
  test = grind (arith, nat_tests)

same : (x y : ℕ) → x ≡ y → nat_cmp x y ≡ Equal
same x y e =
    ap (λ t. cond t Less (cond (x == y) Equal Greater)) less ∙ ap (λ t. cond t Equal Greater) equal where
      less : nat_lt x y ≡ false
      less = grind (arith, nat_tests)

      equal : x == y ≡ true
      equal = grind (arith, nat_tests)

in_order : (a b : Span) → is_lt (key_cmp (key b) (key a)) ≡ false → Precedes a b
in_order a b e = (
  ⊎_elim
      (λ l. absurd (false≢true (sym e
      ∙ ap (λ o. is_lt (ordering_then o (nat_cmp b.from a.from))) (below b.name a.name l))))
      (λ g. g)
      (less_or b.name a.name),
  λ names. ⊎_elim
      (λ l. absurd (false≢true (sym e
      ∙ ap (λ o. is_lt (ordering_then o (nat_cmp b.from a.from))) (same b.name a.name (sym names))
      ∙ ap is_lt (below b.from a.from l))))
      (λ g. g)
      (less_or b.from a.from),
)

pub sorted_ordered : (spans : List Span) → IsSortedByKey key key_cmp spans → AreOrdered spans
sorted_ordered spans sorted i a b at_a at_b =
    let is_a = get_or_from_slice_get spans i a a at_a in
    let is_b = get_or_from_slice_get spans (i + 1) b a at_b in
    in_order a b
    (ap (λ s. is_lt (key_cmp (key b) (key s))) (sym is_a)
    ∙ ap (λ s. is_lt (key_cmp (key s) (key (get_or spans i a)))) (sym is_b)
    ∙ sorted i a (omega arith) (slice_get_within spans (i + 1) b at_b))

pub same_spans : (xs ys : List Span) → IsPermutation xs ys → (k at : ℕ) → IsSpanned ys k at ↔ IsSpanned xs k at
same_spans xs ys moved k at = (
  λ h. record {
    span = h.span;
    among = Contains-permutation ys xs h.span (IsPermutation-sym xs ys moved) h.among;
    spans = h.spans;
  },
  λ h. record { span = h.span; among = Contains-permutation xs ys h.span moved h.among; spans = h.spans },
)
