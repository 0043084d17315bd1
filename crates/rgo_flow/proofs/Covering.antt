-- Ranges cover what they covered before, and the part of a block that was added.
use Rattle.std.proofs.Common.{◌≡◌, ◌⊎◌, ⊎_elim, inl, inr, ◌<◌, ◌≤◌, ◌+◌, ◌-◌, max, ℕ, List, [], ◌∷◌, ◌++◌, length, take, get_or, refl, sym, subst, arith}
use Rattle.std.specs.Prelude.{◌↔◌}
use Rattle.std.proofs.lemmas.List.{take_all}
use Rattle.std.proofs.lemmas.List.Elements.{Contains-push, Contains-push_cases, Contains-append_left, Contains-get_or}
use Rattle.rgo_graphs.proofs.Lists.{no_member, take_cases, take_more_left, take_more_here}
use Rattle.rgo_graphs.specs.Rows.{IsAscending}
use Rattle.rgo_flow.proofs.Choices.{value_of}
use Rattle.rgo_flow.specs.declared.ranges.Range.{Range}
use Rattle.rgo_flow.specs.Ranges.{IsInside, IsCovered, AddsPoints, IsStart, IsBetween, ForSome}

pub not_empty : (at : ℕ) → IsCovered [] at → ⊥
not_empty at h = no_member h.range h.among

-- ---- a range more

module _ (ranges : List Range) (r : Range) (at : ℕ) where
  pub still : IsCovered ranges at → IsCovered (ranges ++ r ∷ []) at
  still h = record {
    range = h.range;
    among = Contains-append_left ranges (r ∷ []) h.range h.among;
    inside = h.inside;
  }

  pub now : IsInside at r → IsCovered (ranges ++ r ∷ []) at
  now h = record { range = r; among = Contains-push ranges r; inside = h }

  pub either : IsCovered (ranges ++ r ∷ []) at → IsCovered ranges at ⊎ IsInside at r
  either h = ⊎_elim
      (λ among. inl (record { range = h.range; among = among; inside = h.inside }))
      (λ same. inr (subst (IsInside at) (sym same) h.inside))
      (Contains-push_cases ranges r h.range h.among)

-- ---- what a range has

less_or : (a b : ℕ) → (a < b) ⊎ (b ≤ a)
less_or a b = grind arith

-- the writers below the end are the first ones
pub start_first : (writers : List ℕ) (first end : ℕ)
    → ((k : ℕ) → k < length writers → end ≤ get_or writers k 0) → IsStart writers first end first
start_first writers first end past = record {
  back = omega arith;
  unwritten = λ m a b w. let e = value_of writers m w in omega (arith, past w.0 w.1, e, b);
  least = inl refl;
}

pub start_after : (writers : List ℕ) (first end n start : ℕ) → IsAscending writers → 0 < n → n ≤ length writers
    → ((k : ℕ) → k < n → get_or writers k 0 < end) → ((k : ℕ) → n ≤ k → k < length writers → end ≤ get_or writers k 0)
    → start ≡ max first (get_or writers (n - 1) 0 + 1) → IsStart writers first end start
start_after writers first end n start up some within below past is = record {
  back = omega (arith, is);
  unwritten = λ m a b w.
      let e = value_of writers m w in
      ⊎_elim
      (λ l. let most = up w.0 (n - 1) (omega (arith, l)) (omega (arith, within, some)) in omega (arith, most, e, a, is))
      (λ g. omega (arith, past w.0 g w.1, e, b))
      (less_or w.0 n);
  least = ⊎_elim
      (λ l. inl (omega (arith, is, l)))
      (λ g. inr (
        get_or writers (n - 1) 0,
        Contains-get_or writers (n - 1) 0 (omega (arith, within, some)),
        omega (arith, is, g),
        below (n - 1) (omega (arith, some)),
      ))
      (less_or (get_or writers (n - 1) 0) first);
}

module _ (writers : List ℕ) (first end to : ℕ) (start : ℕ) (is : IsStart writers first end start) where
  pub inside_between : (at : ℕ) → start ≤ at → at ≤ to → IsBetween writers first end to at
  inside_between at from within = record {
    from = omega (arith, is.back, from);
    to = within;
    unwritten = λ m a b w. is.unwritten m (omega (arith, a, from)) b w;
  }

  pub between_inside : (at : ℕ) → IsBetween writers first end to at → start ≤ at
  between_inside at h = ⊎_elim
      (λ e. omega (arith, e, h.from))
      (λ w. ⊎_elim
      (λ below. omega (arith, below, w.2))
      (λ above. absurd (h.unwritten w.0 above w.3 w.1))
      (less_or w.0 at))
      is.least

module _ (ranges : List Range) (writers : List ℕ) (first end to start : ℕ) (is : IsStart writers first end start) where
  pub adds_range : (r : Range) → r ≡ record { from = start; to = to }
      → AddsPoints ranges (ranges ++ r ∷ []) (IsBetween writers first end to)
  adds_range r same at =
      subst (λ q. IsCovered (ranges ++ q ∷ []) at ↔ (IsCovered ranges at ⊎ IsBetween writers first end to at)) (sym same) (
        λ h. ⊎_elim
            (λ old. inl old)
            (λ new. inr (inside_between writers first end to start is at new.0 new.1))
            (either ranges (record { from = start; to = to }) at h),
        λ h. ⊎_elim
            (λ old. still ranges (record { from = start; to = to }) at old)
            (λ new. now ranges (record { from = start; to = to }) at
            (between_inside writers first end to start is at new, new.to))
            h,
      )

  pub adds_nothing : to < start → AddsPoints ranges ranges (IsBetween writers first end to)
  adds_nothing past at = (
    λ h. inl h,
    λ h. ⊎_elim
        (λ old. old)
        (λ new. absurd (omega (arith, between_inside writers first end to start is at new, new.to, past)))
        h,
  )

-- ---- over lists

pub none_added : (ranges : List Range) (P : ℕ → ℕ → Type 0) → AddsPoints ranges ranges (λ at. ForSome [] (λ x. P x at))
none_added ranges P at = (
  λ h. inl h,
  λ h. ⊎_elim (λ old. old) (λ new. absurd (no_member new.0 new.1)) h,
)

pub more_added : (old mid new : List Range) (xs : List ℕ) (i d : ℕ) (P : ℕ → ℕ → Type 0) → i < length xs
    → AddsPoints old mid (λ at. ForSome (take i xs) (λ x. P x at)) → AddsPoints mid new (P (get_or xs i d))
    → AddsPoints old new (λ at. ForSome (take (i + 1) xs) (λ x. P x at))
more_added old mid new xs i d P within before one at = (
  λ h. ⊎_elim
      (λ m. ⊎_elim
      (λ o. inl o)
      (λ s. inr (s.0, take_more_left xs i d s.0 within s.1, s.2))
      ((before at).0 m))
      (λ p. inr (get_or xs i d, take_more_here xs i d within, p))
      ((one at).0 h),
  λ h. (one at).1 (⊎_elim
      (λ o. inl ((before at).1 (inl o)))
      (λ s. ⊎_elim
      (λ earlier. inl ((before at).1 (inr (s.0, earlier, s.2))))
      (λ same. inr (subst (λ x. P x at) (sym same) s.2))
      (take_cases xs i d s.0 within s.1))
      h),
)

pub all_added : (old new : List Range) (xs : List ℕ) (i : ℕ) (P : ℕ → ℕ → Type 0) → length xs ≤ i
    → AddsPoints old new (λ at. ForSome (take i xs) (λ x. P x at)) → AddsPoints old new (λ at. ForSome xs (λ x. P x at))
all_added old new xs i P past h =
    subst (λ (l : List ℕ). AddsPoints old new (λ at. ForSome l (λ x. P x at))) (take_all i xs past) h
