-- Spans that are merged in their order. Since they are sorted, the next span can meet only the last one that was merged.
use Rattle.std.proofs.Common.{◌≡◌, ◌⊎◌, ⊎_elim, inl, inr, ◌<◌, ◌≤◌, ◌+◌, ◌-◌, max, ℕ, zero, suc, List, [], ◌∷◌, ◌++◌, Some, length, get_or, slice_get, slice_set, true, false, refl, sym, ap, subst, ◌∙◌, arith}
use Rattle.std.specs.List.{Contains}
use Rattle.std.proofs.lemmas.Option.{same_Some, none-some, slice_get_within, slice_get-get_or, get_or_from_slice_get}
use Rattle.std.proofs.lemmas.List.{length-append}
use Rattle.rgo_region_sets.specs.declared.spans.Span.{Span}
use Rattle.rgo_region_sets.specs.Spans.{Spans, AddsSpans, Precedes, IsSpanBefore, AreApart, Continues, SpanFollows, SpansMeet}
use Rattle.rgo_region_sets.proofs.Apart.{member_at}

less_or : (a b : ℕ) → (a < b) ⊎ (b ≤ a)
less_or a b = grind arith

same_or : (a b : ℕ) → (a ≡ b) ⊎ (a ≡ b → ⊥)
same_or a b = grind arith

-- ---- items by number

module _ {A : Type 0} where
  pub found : (xs : List A) (i : ℕ) (x : A) → slice_get xs i ≡ Some x → Contains xs x
  found xs i x e = (i, slice_get_within xs i x e, get_or_from_slice_get xs i x x e)

  pub get_pushed : (xs : List A) (y : A) (i : ℕ) (a : A) → slice_get (xs ++ y ∷ []) i ≡ Some a
      → (slice_get xs i ≡ Some a) ⊎ ((i ≡ length xs) × (y ≡ a))
  get_pushed [] y zero a e = inr (refl, same_Some y a e)
  get_pushed [] y (suc i) a e = absurd (none-some a e)
  get_pushed (x ∷ xs) y zero a e = inl e
  get_pushed (x ∷ xs) y (suc i) a e = ⊎_elim
      (λ h. inl h)
      (λ h. inr (ap suc h.0, h.1))
      (get_pushed xs y i a e)

  pub get_written : (xs : List A) (n : ℕ) (y : A) (i : ℕ) (a : A) → slice_get (slice_set xs n y) i ≡ Some a
      → ((slice_get xs i ≡ Some a) × (i ≡ n → ⊥)) ⊎ ((i ≡ n) × (y ≡ a))
  get_written [] n y i a e = absurd (none-some a e)
  get_written (x ∷ xs) zero y zero a e = inr (refl, same_Some y a e)
  get_written (x ∷ xs) zero y (suc i) a e = inl (e, λ z. absurd (omega (arith, z)))
  get_written (x ∷ xs) (suc n) y zero a e = inl (e, λ z. absurd (omega (arith, z)))
  get_written (x ∷ xs) (suc n) y (suc i) a e = ⊎_elim
      (λ h. inl (h.0, λ z. h.1 (omega (arith, z))))
      (λ h. inr (ap suc h.0, h.1))
      (get_written xs n y i a e)

  pub still_there : (xs : List A) (n : ℕ) (y : A) (i : ℕ) (a : A) → slice_get xs i ≡ Some a → (i ≡ n → ⊥)
      → slice_get (slice_set xs n y) i ≡ Some a
  still_there [] n y i a e differ = absurd (none-some a e)
  still_there (x ∷ xs) zero y zero a e differ = absurd (differ refl)
  still_there (x ∷ xs) zero y (suc i) a e differ = e
  still_there (x ∷ xs) (suc n) y zero a e differ = e
  still_there (x ∷ xs) (suc n) y (suc i) a e differ = still_there xs n y i a e (λ z. differ (ap suc z))

  pub written : (xs : List A) (n : ℕ) (y z : A) → slice_get xs n ≡ Some z → slice_get (slice_set xs n y) n ≡ Some y
  written [] n y z e = absurd (none-some z e)
  written (x ∷ xs) zero y z e = refl
  written (x ∷ xs) (suc n) y z e = written xs n y z e

  pub as_long : (xs : List A) (n : ℕ) (y : A) → length (slice_set xs n y) ≡ length xs
  as_long [] n y = refl
  as_long (x ∷ xs) zero y = refl
  as_long (x ∷ xs) (suc n) y = ap suc (as_long xs n y)

-- ---- a next span that is apart

before_all : (a b c : Span) → IsSpanBefore a b → IsSpanBefore b c → IsSpanBefore a c
before_all a b c ab bc = (
  omega (arith, ab.0, bc.0),
  λ e.
      let first : a.name ≡ b.name = omega (arith, e, ab.0, bc.0) in
      let second : b.name ≡ c.name = omega (arith, e, ab.0, bc.0) in
      (omega (arith, (ab.1 first).0, (bc.1 second).0), omega (arith, (ab.1 first).1, (bc.1 second).0)),
)

pub apart_pushed : (spans : List Span) (next : Span) → AreApart spans
    → ((a : Span) → slice_get spans (length spans - 1) ≡ Some a → IsSpanBefore a next) → AreApart (spans ++ next ∷ [])
apart_pushed spans next apart after i j a b less at_i at_j = ⊎_elim
    (λ old.
    let within = slice_get_within spans j b old in
    ⊎_elim (λ o. apart i j a b less o old) (λ n. absurd (omega (arith, n.0, less, within)))
    (get_pushed spans next i a at_i))
    (λ new. ⊎_elim
    (λ o. subst (IsSpanBefore a) new.1 (last_first i a o))
    (λ n. absurd (omega (arith, n.0, new.0, less)))
    (get_pushed spans next i a at_i))
    (get_pushed spans next j b at_j)
  where
    by_last : (i : ℕ) (a last : Span) → slice_get spans i ≡ Some a → slice_get spans (length spans - 1) ≡ Some last
        → IsSpanBefore a next
    by_last i a last at_a at_last =
        let within = slice_get_within spans i a at_a in
        ⊎_elim
        (λ e. after a (ap (slice_get spans) (sym e) ∙ at_a))
        (λ n. before_all a last next (apart i (length spans - 1) a last (omega (arith, within, n)) at_a at_last)
        (after last at_last))
        (same_or i (length spans - 1))

    last_first : (i : ℕ) (a : Span) → slice_get spans i ≡ Some a → IsSpanBefore a next
    last_first i a at_a =
        let within = slice_get_within spans i a at_a in
        by_last i a (get_or spans (length spans - 1) a) at_a
        (slice_get-get_or spans (length spans - 1) a (omega (arith, within)))

pub not_met : (last next : Span) → Precedes last next → SpansMeet false last next → IsSpanBefore last next
not_met last next precedes apart = (precedes.0, λ e. (precedes.1 e, apart e))

pub follows_pushed : (spans : List Span) (next later : Span) → Precedes next later
    → SpanFollows (spans ++ next ∷ []) later
follows_pushed spans next later precedes a e = ⊎_elim
    (λ o.
    let within = slice_get_within spans (length (spans ++ next ∷ []) - 1) a o in
    absurd (omega (arith, within, length-append spans (next ∷ []))))
    (λ n. subst (λ s. Precedes s later) n.1 precedes)
    (get_pushed spans next (length (spans ++ next ∷ []) - 1) a e)

-- ---- a next span that meets the last one

module _ (spans : List Span) (n : ℕ) (last next : Span) (to : ℕ) (there : slice_get spans n ≡ Some last)
    (is : to ≡ max last.to next.to) (is_last : n + 1 ≡ length spans) (precedes : Precedes last next)
    (met : SpansMeet true last next) where
  abbrev both : Span
  both = record { name = last.name; from = last.from; to = to }

  both_apart : AreApart spans → AreApart (slice_set spans n both)
  both_apart apart i j a b less at_i at_j = ⊎_elim
      (λ old. ⊎_elim
      (λ o. apart i j a b less o.0 old.0)
      (λ m. absurd (omega (arith, m.0, less, is_last, slice_get_within spans j b old.0)))
      (get_written spans n both i a at_i))
      (λ new. ⊎_elim
      (λ o.
      let before = apart i n a last (omega (arith, less, new.0)) o.0 there in
      subst (IsSpanBefore a) new.1 (before.0, λ e. before.1 e))
      (λ m. absurd (omega (arith, m.0, new.0, less)))
      (get_written spans n both i a at_i))
      (get_written spans n both j b at_j)

  both_spans : (k at : ℕ) → Spans both k at → Spans last k at ⊎ Spans next k at
  both_spans k at h = ⊎_elim
      (λ late. inr (sym met.0 ∙ h.0, omega (arith, late, met.1), omega (arith, h.2, late, is)))
      (λ early. inl (h.0, h.1, early))
      (less_or last.to at)

  last_both : (k at : ℕ) → Spans last k at → Spans both k at
  last_both k at h = (h.0, h.1, omega (arith, h.2, is))

  next_both : (k at : ℕ) → Spans next k at → Spans both k at
  next_both k at h = (met.0 ∙ h.0, omega (arith, h.1, precedes.1 met.0), omega (arith, h.2, is))

  adds_both : AddsSpans spans (slice_set spans n both) (Spans next)
  adds_both k at = (
    λ h. ⊎_elim
        (λ old. inl (record { span = h.span; among = found spans h.among.0 h.span old.0; spans = h.spans }))
        (λ new. ⊎_elim
        (λ l. inl (record { span = last; among = found spans n last there; spans = l }))
        (λ m. inr m)
        (both_spans k at (subst (λ s. Spans s k at) (sym new.1) h.spans)))
        (get_written spans n both h.among.0 h.span (member_at (slice_set spans n both) h.span h.among)),
    λ h. ⊎_elim
        (λ o. ⊎_elim
        (λ e.
        let same : last ≡ o.span = same_Some last o.span
        (sym there ∙ ap (slice_get spans) (sym e) ∙ member_at spans o.span o.among) in
        record {
          span = both;
          among = found (slice_set spans n both) n both (written spans n both last there);
          spans = last_both k at (subst (λ s. Spans s k at) (sym same) o.spans);
        })
        (λ d. record {
          span = o.span;
          among = found (slice_set spans n both) o.among.0 o.span
              (still_there spans n both o.among.0 o.span (member_at spans o.span o.among) d);
          spans = o.spans;
        })
        (same_or o.among.0 n))
        (λ m. record {
          span = both;
          among = found (slice_set spans n both) n both (written spans n both last there);
          spans = next_both k at m;
        })
        h,
  )

  both_follows : (later : Span) → Precedes next later → SpanFollows (slice_set spans n both) later
  both_follows later after a e = ⊎_elim
      (λ o. absurd (o.1 (omega (arith, is_last, as_long spans n both))))
      (λ m. subst (λ s. Precedes s later) m.1 (
        omega (arith, met.0, after.0),
        λ same. omega (arith, precedes.1 met.0, after.1 (sym met.0 ∙ same)),
      ))
      (get_written spans n both (length (slice_set spans n both) - 1) a e)

-- a next span that continues the last one
pub continued_added : (spans : List Span) (count : ℕ) (last next : Span) (to : ℕ) → count ≡ length spans
    → (count ≡ 0 → ⊥) → last ≡ get_or spans (count - 1) last → to ≡ max last.to next.to → Continues true last next
    → AddsSpans spans (slice_set spans (count - 1) (record { name = last.name; from = last.from; to = to })) (Spans next)
continued_added spans count last next to is_count some read is met =
    adds_both spans (count - 1) last next to
    (slice_get-get_or spans (count - 1) last (omega (arith, is_count, some)) ∙ ap Some (sym read)) is
    (omega (arith, is_count, some)) (omega (arith, met.1.0), λ _. met.0) met.1

-- ---- a next span

module _ (spans : List Span) (count : ℕ) (last next : Span) (is_count : count ≡ length spans) (some : count ≡ 0 → ⊥)
    (read : last ≡ get_or spans (count - 1) last) (follows : SpanFollows spans next) where
  there : slice_get spans (count - 1) ≡ Some last
  there = slice_get-get_or spans (count - 1) last (omega (arith, is_count, some)) ∙ ap Some (sym read)

  at_the_end : slice_get spans (length spans - 1) ≡ Some last
  at_the_end = ap (λ m. slice_get spans (m - 1)) (sym is_count) ∙ there

  precedes : Precedes last next
  precedes = follows last at_the_end

  pub apart_after : SpansMeet false last next → AreApart spans → AreApart (spans ++ next ∷ [])
  apart_after apart before =
      apart_pushed spans next before
      (λ a e. subst (λ s. IsSpanBefore s next) (same_Some last a (sym at_the_end ∙ e)) (not_met last next precedes apart))

  module _ (to : ℕ) (is : to ≡ max last.to next.to) (met : SpansMeet true last next) where
    abbrev joined : List Span
    joined = slice_set spans (count - 1) (record { name = last.name; from = last.from; to = to })

    pub joined_added : AddsSpans spans joined (Spans next)
    joined_added = adds_both spans (count - 1) last next to there is (omega (arith, is_count, some)) precedes met

    pub joined_apart : AreApart spans → AreApart joined
    joined_apart = both_apart spans (count - 1) last next to there is (omega (arith, is_count, some)) precedes met

    pub joined_ends : (later : Span) → Precedes next later → SpanFollows joined later
    joined_ends = both_follows spans (count - 1) last next to there is (omega (arith, is_count, some)) precedes met
