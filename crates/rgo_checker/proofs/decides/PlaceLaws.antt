-- The places of names among classes, as a loop goes over them.
use Rattle.std.proofs.Common.{◌≡◌, ℕ, ◌+◌, ◌<◌, ◌≤◌, Bool, true, false, List, Option, Some, None, length, slice_get, nat_eq, MatchOption, if◌then◌else◌, refl, sym, ap, ◌∙◌, subst, arith, ◌⊎◌, inl, inr}
use Rattle.std.proofs.lemmas.Bool.{false≢true, cases_lt}
use Rattle.std.proofs.lemmas.Option.{same_Some, none-some, slice_get_within}
use Rattle.std.specs.Bool.{Decides}
use Rattle.std.specs.HashMap.{HashMap, get}
use Rattle.rgo_tac.specs.declared.regions.Class.{Class}
use Rattle.rgo_tac.specs.declared.regions.Class.TheVariants.{NoClass, Global, Name}
use Rattle.rgo_checker.specs.ClassTests.{ArePlaces}
use Rattle.rgo_checker.specs.Parameters.{ArePlacesBelow, place_with_class}
use Rattle.rgo_checker.proofs.Deciding.{decides_same}

-- what a map says of name k after n items of the loop
abbrev At : List Class → (count k : ℕ) → Option ℕ → Type 0
At classes count k o =
    MatchOption o ((p : ℕ) → p < count → slice_get classes p ≡ Some (Name k) → ⊥)
    (λ p. slice_get classes p ≡ Some (Name k))

other : (classes : List Class) (n k : ℕ) (c : Class) (o : Option ℕ) → slice_get classes n ≡ Some c → (c ≡ Name k → ⊥)
    → At classes n k o → At classes (n + 1) k o
other classes n k c (Some p) here apart h = h
other classes n k c None here apart h = λ p low e. go p e (cases_lt p n) low
  where
    go : (p : ℕ) → slice_get classes p ≡ Some (Name k) → (p < n) ⊎ (n ≤ p) → p < n + 1 → ⊥
    go p e (inl l) low = h p l e
    go p e (inr g) low =
        let q : n ≡ p = omega (arith, low, g) in
        apart (same_Some c (Name k) (sym here ∙ ap (slice_get classes) q ∙ e))

at_next : (classes : List Class) (n k : ℕ) (c : Class) (o : Option ℕ) → slice_get classes n ≡ Some c
    → At classes n k o → At classes (n + 1) k (place_with_class c n k o)
at_next classes n k NoClass o here h = other classes n k NoClass o here (λ e. cc) h
at_next classes n k Global o here h = other classes n k Global o here (λ e. cc) h
at_next classes n k (Name j) o here h = by (nat_eq j k) (decides_same j k)
  where
    by : (b : Bool) → Decides b (j ≡ k) → At classes (n + 1) k (if b then Some n else o)
    by true d = here ∙ ap (λ x. Some (Name x)) (d.0 refl)
    by false d = other classes n k (Name j) o here (λ e. let q : j ≡ k = cc in false≢true (d.1 q)) h

module _ {S : Type 0} (classes : List Class) (old new : HashMap ℕ ℕ S) (n : ℕ) (c : Class) where
  pub places_more : slice_get classes n ≡ Some c → ArePlacesBelow classes n old
      → ((q : ℕ) → get nat_eq new q ≡ place_with_class c n q (get nat_eq old q)) → ArePlacesBelow classes (n + 1) new
  places_more here h says k =
      subst (At classes (n + 1) k) (sym (says k)) (at_next classes n k c (get nat_eq old k) here (h k))

pub places_all : {S : Type 0} (classes : List Class) (n : ℕ) (places : HashMap ℕ ℕ S) → length classes ≤ n
    → ArePlacesBelow classes n places → ArePlaces classes places
places_all classes n places long h k p = by (get nat_eq places k) refl (h k)
  where
    by : (o : Option ℕ) → get nat_eq places k ≡ o → At classes n k o
        → (get nat_eq places k ≡ Some p → slice_get classes p ≡ Some (Name k))
        × (get nat_eq places k ≡ None → slice_get classes p ≡ Some (Name k) → ⊥)
    by None e none = (
      λ q. absurd (none-some p (sym e ∙ q)),
      λ q here. none p (omega (arith, long, slice_get_within classes p (Name k) here)) here,
    )
    by (Some r) e there = (
      λ q. subst (λ x. slice_get classes x ≡ Some (Name k)) (same_Some r p (sym e ∙ q)) there,
      λ q here. none-some r (sym q ∙ e),
    )
