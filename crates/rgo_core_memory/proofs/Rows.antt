-- Lists by position, after a write and with one element more.
use Rattle.std.proofs.Common.{◌≡◌, ◌≢◌, ◌⊎◌, ℕ, zero, suc, ◌<◌, ◌++◌, List, [], ◌∷◌, length, Some, slice_get, slice_set, refl, ap, sym, inl, inr, ⊎_elim, arith}
use Rattle.std.proofs.lemmas.Option.{same_Some}

module _ {A : Type 0} where
  pub at_set : (l : List A) (i j : ℕ) (a b : A) → slice_get (slice_set l i a) j ≡ Some b → ((j ≡ i) × (a ≡ b)) ⊎ ((j ≢ i) × (slice_get l j ≡ Some b))
  at_set [] i j a b e = cc
  at_set (x ∷ xs) zero zero a b e = inl (refl, same_Some a b e)
  at_set (x ∷ xs) zero (suc j) a b e = inr ((λ h. omega arith), e)
  at_set (x ∷ xs) (suc i) zero a b e = inr ((λ h. omega arith), e)
  at_set (x ∷ xs) (suc i) (suc j) a b e = ⊎_elim (λ t. inl (ap suc t.0, t.1)) (λ t. let n = t.0 in inr ((λ h. n (omega arith)), t.1))
      (at_set xs i j a b e)

  pub set_here : (l : List A) (i : ℕ) (a b : A) → slice_get l i ≡ Some b → slice_get (slice_set l i a) i ≡ Some a
  set_here [] i a b h = cc
  set_here (x ∷ xs) zero a b h = refl
  set_here (x ∷ xs) (suc i) a b h = set_here xs i a b h

  pub set_else : (l : List A) (i j : ℕ) (a : A) → j ≢ i → slice_get (slice_set l i a) j ≡ slice_get l j
  set_else [] i j a n = refl
  set_else (x ∷ xs) zero zero a n = absurd (n refl)
  set_else (x ∷ xs) zero (suc j) a n = refl
  set_else (x ∷ xs) (suc i) zero a n = refl
  set_else (x ∷ xs) (suc i) (suc j) a n = set_else xs i j a (λ e. n (ap suc e))

  pub set_again : (l : List A) (i : ℕ) (a : A) → slice_get l i ≡ Some a → slice_set l i a ≡ l
  set_again [] i a e = refl
  set_again (x ∷ xs) zero a e = ap (λ y. y ∷ xs) (same_Some a x (sym e))
  set_again (x ∷ xs) (suc i) a e = ap (λ ys. x ∷ ys) (set_again xs i a e)

  pub below : (l : List A) (i : ℕ) (a : A) → slice_get l i ≡ Some a → i < length l
  below [] i a e = cc
  below (x ∷ xs) zero a e = omega arith
  below (x ∷ xs) (suc i) a e = let h = below xs i a e in omega arith

  pub snoc_at : (l : List A) (a b : A) (j : ℕ) → slice_get (l ++ a ∷ []) j ≡ Some b → ((j < length l) × (slice_get l j ≡ Some b))
      ⊎ ((j ≡ length l) × (a ≡ b))
  snoc_at [] a b zero e = inr (refl, same_Some a b e)
  snoc_at [] a b (suc j) e = cc
  snoc_at (x ∷ l) a b zero e = inl (omega arith, e)
  snoc_at (x ∷ l) a b (suc j) e = ⊎_elim (λ t. let h = t.0 in inl (omega arith, t.1)) (λ t. inr (ap suc t.0, t.1)) (snoc_at l a b j e)
