-- Spans that are apart, and what the last one that has begun says.
use Rattle.std.proofs.Common.{◌≡◌, ◌⊎◌, ⊎_elim, inl, inr, ◌<◌, ◌≤◌, ◌-◌, ◌&&◌, ◌||◌, ℕ, Bool, true, false, nat_lt, nat_eq, nat_le, Decides, List, Some, length, get_or, slice_get, refl, sym, ap, subst, ◌∙◌, arith}
use Rattle.std.specs.List.{Contains}
use Rattle.std.specs.List.Sorted.{IsPartitionedBy, IsPartitionPoint}
use Rattle.std.proofs.lemmas.Bool.{false≢true}
use Rattle.std.proofs.lemmas.Bool.Decides.{nat_tests}
use Rattle.std.proofs.lemmas.List.Elements.{Contains-get_or}
use Rattle.std.proofs.lemmas.Option.{same_Some, slice_get_read, slice_get_within, slice_get-get_or, get_or_from_slice_get}
use Rattle.rgo_region_sets.specs.declared.spans.Span.{Span}
use Rattle.rgo_region_sets.specs.Spans.{Spans, IsSpanned, IsSpanBefore, AreApart, SpanHasBegun, AreSpansBegun}

less_or : (a b : ℕ) → (a < b) ⊎ (b ≤ a)
less_or a b = grind arith

pub member_at : {A : Type 0} (xs : List A) (x : A) (h : Contains xs x) → slice_get xs h.0 ≡ Some x
member_at xs x h = slice_get_read xs (length xs) h.0 x refl h.1 (sym h.2)

earlier_has_begun : (k at : ℕ) (a b : Span) → IsSpanBefore a b → SpanHasBegun k at b → SpanHasBegun k at a
earlier_has_begun k at a b before begun = ⊎_elim
    (λ m. inl (omega (arith, before.0, m)))
    (λ f. ⊎_elim
    (λ l. inl (omega (arith, l, f.0)))
    (λ g.
    let same : a.name ≡ b.name = omega (arith, g, f.0, before.0) in
    inr (same ∙ f.0, omega (arith, (before.1 same).0, f.1)))
    (less_or a.name b.name))
    begun

-- ---- by a test

abbrev pub has_begun : (k at : ℕ) → Span → Bool
has_begun k at s = nat_lt s.name k || (nat_eq s.name k && nat_le s.from at)

time_name : (n k f at : ℕ) → nat_lt n k || (nat_eq n k && nat_le f at) ≡ true → k ≤ n → n ≡ k
time_name n k f at e g = grind (arith, nat_tests)

time_from : (n k f at : ℕ) → nat_lt n k || (nat_eq n k && nat_le f at) ≡ true → k ≤ n → f ≤ at
time_from n k f at e g = grind (arith, nat_tests)

less_passes : (n k f at : ℕ) → n < k → nat_lt n k || (nat_eq n k && nat_le f at) ≡ true
less_passes n k f at l = grind (arith, nat_tests)

from_passes : (n k f at : ℕ) → n ≡ k → f ≤ at → nat_lt n k || (nat_eq n k && nat_le f at) ≡ true
from_passes n k f at e l = grind (arith, nat_tests)

passed : (k at : ℕ) (s : Span) → has_begun k at s ≡ true → SpanHasBegun k at s
passed k at s e = ⊎_elim
    (λ l. inl l)
    (λ g. inr (time_name s.name k s.from at e g, time_from s.name k s.from at e g))
    (less_or s.name k)

passes : (k at : ℕ) (s : Span) → SpanHasBegun k at s → has_begun k at s ≡ true
passes k at s h = ⊎_elim
    (λ l. less_passes s.name k s.from at l)
    (λ e. from_passes s.name k s.from at e.0 e.1)
    h

pub begun_partitioned : (spans : List Span) (k at : ℕ) → AreApart spans → IsPartitionedBy (has_begun k at) spans
begun_partitioned spans k at apart = λ i j d le within e.
    let last = get_or spans j d in
    let there = slice_get-get_or spans j d within in
    ⊎_elim
    (λ less. passes k at (get_or spans i d) (earlier_has_begun k at (get_or spans i d) last
    (apart i j (get_or spans i d) last less (slice_get-get_or spans i d (omega (arith, le, within))) there)
    (passed k at last e)))
    (λ past.
    let same : i ≡ j = omega (arith, past, le) in
    subst (λ n. has_begun k at (get_or spans n d) ≡ true) (sym same) e)
    (less_or i j)

-- what a search finds
pub begun_found : (spans : List Span) (k at n : ℕ) → n ≤ length spans
    → IsPartitionPoint (λ s. has_begun k at s ≡ true) (λ s. has_begun k at s ≡ false) spans n → AreSpansBegun spans k at n
begun_found spans k at n bound point = record {
  bound = bound;
  begun = λ i s is before. passed k at s (subst (λ x. has_begun k at x ≡ true) (get_or_from_slice_get spans i s s is)
      (point.0 i s (omega arith) before));
  only = λ i s is begun. ⊎_elim
      (λ l. l)
      (λ g.
      let fails = point.1 i s g (slice_get_within spans i s is) in
      absurd (false≢true (sym fails ∙ ap (has_begun k at) (get_or_from_slice_get spans i s s is)
      ∙ passes k at s begun)))
      (less_or i n);
}

-- ---- the last span that has begun

less_tells : (a b : ℕ) → nat_le a b ≡ true → a ≤ b
less_tells a b e = grind (arith, nat_tests)

less_told : (a b : ℕ) → a ≤ b → nat_le a b ≡ true
less_told a b l = grind (arith, nat_tests)

same_tells : (a b : ℕ) → nat_eq a b ≡ true → a ≡ b
same_tells a b e = grind (arith, nat_tests)

-- it decides: a span that has the instruction is not an earlier one
is_the_last : (spans : List Span) (k at n : ℕ) (last : Span) → AreApart spans → slice_get spans n ≡ Some last
    → SpanHasBegun k at last → ((j : ℕ) (s : Span) → slice_get spans j ≡ Some s → SpanHasBegun k at s → j ≤ n)
    → IsSpanned spans k at → Spans last k at
is_the_last spans k at n last apart there begun least h =
    let place = member_at spans h.span h.among in
    let below : h.among.0 ≤ n = least h.among.0 h.span place (inr (h.spans.0, h.spans.1)) in
    ⊎_elim
    (λ less.
    let before = apart h.among.0 n h.span last less place there in
    absurd (⊎_elim
    (λ m. omega (arith, before.0, m, h.spans.0))
    (λ f. omega (arith, (before.1 (h.spans.0 ∙ sym f.0)).1, f.1, h.spans.2))
    begun))
    (λ past.
    let e : h.among.0 ≡ n = omega (arith, past, below) in
    let same : h.span ≡ last = same_Some h.span last (sym place ∙ ap (slice_get spans) e ∙ there) in
    subst (λ s. Spans s k at) same h.spans)
    (less_or h.among.0 n)

pub none_begun : (spans : List Span) (k at n : ℕ) → AreSpansBegun spans k at n → n ≡ 0
    → Decides false (IsSpanned spans k at)
none_begun spans k at n found none = (
  λ e. absurd (false≢true e),
  λ h.
      let before = found.only h.among.0 h.span (member_at spans h.span h.among) (inr (h.spans.0, h.spans.1)) in
      absurd (omega (arith, before, none)),
)

module _ (spans : List Span) (k at n : ℕ) (d : Span) (apart : AreApart spans) (found : AreSpansBegun spans k at n)
    (some : n ≡ 0 → ⊥) where
  abbrev last : Span
  last = get_or spans (n - 1) d

  there : slice_get spans (n - 1) ≡ Some last
  there = slice_get-get_or spans (n - 1) d (omega (arith, some, found.bound))

  begun : SpanHasBegun k at last
  begun = found.begun (n - 1) last there (omega (arith, some))

  decides : IsSpanned spans k at → Spans last k at
  decides = is_the_last spans k at (n - 1) last apart there begun
      (λ j s is has. let before = found.only j s is has in omega (arith, before))

  pub last_of_name : last.name ≡ k → Decides (nat_le at last.to) (IsSpanned spans k at)
  last_of_name same = (
    λ e. record {
      span = last;
      among = Contains-get_or spans (n - 1) d (omega (arith, some, found.bound));
      spans = (
        same,
        ⊎_elim (λ l. absurd (omega (arith, same, l))) (λ f. f.1) begun,
        less_tells at last.to e,
      );
    },
    λ h. less_told at last.to (decides h).2,
  )

  pub last_of_other : (last.name ≡ k → ⊥) → Decides (nat_eq last.name k) (IsSpanned spans k at)
  last_of_other other = (
    λ e. absurd (other (same_tells last.name k e)),
    λ h. absurd (other (decides h).0),
  )
