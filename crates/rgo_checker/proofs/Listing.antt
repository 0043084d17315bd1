-- Tests on all items of a list, and on any.
use Rattle.std.proofs.Common.{◌≡◌, ℕ, zero, suc, Bool, List, [], ◌∷◌, Some, slice_get, refl, sym, subst, arith, ◌⊎◌, inl, inr, Contains, nat_eq}
use Rattle.std.proofs.lemmas.Bool.Decides.{Decides-and, Decides-or, Decides-like}
use Rattle.std.proofs.lemmas.Option.{same_Some, none-some}
use Rattle.std.specs.Bool.{Decides}
use Rattle.std.specs.List.{list_all, list_any}
use Rattle.rgo_checker.proofs.Deciding.{always, never, decides_same}

pub contains_none : {X : Type 0} (x : X) → Contains [] x → ⊥
contains_none x p = absurd (omega (arith, p.1))

pub contains_here : {X : Type 0} (x : X) (xs : List X) → Contains (x ∷ xs) x
contains_here x xs = (0, omega arith, refl)

pub contains_there : {X : Type 0} (x : X) (xs : List X) (y : X) → Contains xs y → Contains (x ∷ xs) y
contains_there x xs y p = (suc p.0, omega (arith, p.1), p.2)

pub contains_cases : {X : Type 0} (x : X) (xs : List X) (y : X) → Contains (x ∷ xs) y → (x ≡ y) ⊎ Contains xs y
contains_cases x xs y (zero, h, e) = inl e
contains_cases x xs y (suc k, h, e) = inr (k, omega (arith, h), e)

module _ {X : Type 0} (test : X → Bool) (P : X → Type 0) (each : (x : X) → Decides (test x) (P x)) where
  pub all_decided : (xs : List X) → Decides (list_all test xs) ((x : X) → Contains xs x → P x)
  all_decided [] = always (λ x c. absurd (contains_none x c))
  all_decided (x ∷ xs) =
      Decides-like (list_all test (x ∷ xs)) (λ p y c. go p.0 p.1 y (contains_cases x xs y c))
      (λ h. (h x (contains_here x xs), λ y c. h y (contains_there x xs y c)))
      (Decides-and (test x) (list_all test xs) (each x) (all_decided xs))
    where
      go : P x → ((y : X) → Contains xs y → P y) → (y : X) → (x ≡ y) ⊎ Contains xs y → P y
      go here there y (inl e) = subst P e here
      go here there y (inr c) = there y c

  pub all_at_decided : (xs : List X) → Decides (list_all test xs) ((k : ℕ) (x : X) → slice_get xs k ≡ Some x → P x)
  all_at_decided [] = always (λ k x e. absurd (none-some x e))
  all_at_decided (x ∷ xs) =
      Decides-like (list_all test (x ∷ xs)) (λ p k y e. go p.0 p.1 k y e) (λ h. (h 0 x refl, λ k y e. h (suc k) y e))
      (Decides-and (test x) (list_all test xs) (each x) (all_at_decided xs))
    where
      go : P x → ((k : ℕ) (y : X) → slice_get xs k ≡ Some y → P y) → (k : ℕ) (y : X)
          → slice_get (x ∷ xs) k ≡ Some y → P y
      go here there zero y e = subst P (same_Some x y e) here
      go here there (suc k) y e = there k y e

pub among_decided : (k : ℕ) (names : List ℕ) → Decides (list_any (λ j. nat_eq j k) names) (Contains names k)
among_decided k [] = never (contains_none k)
among_decided k (j ∷ names) =
    Decides-like (list_any (λ i. nat_eq i k) (j ∷ names)) (λ p. go p) (λ c. contains_cases j names k c)
    (Decides-or (nat_eq j k) (list_any (λ i. nat_eq i k) names) (decides_same j k) (among_decided k names))
  where
    go : (j ≡ k) ⊎ Contains names k → Contains (j ∷ names) k
    go (inl e) = subst (λ x. Contains (x ∷ names) k) (sym e) (contains_here k names)
    go (inr c) = contains_there j names k c
