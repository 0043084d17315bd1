-- Items of a list by number, after one more is put at its end.
use Rattle.std.proofs.Common.{◌≡◌, ◌⊎◌, inl, inr, ⊎_elim, ℕ, zero, suc, List, [], ◌∷◌, ◌++◌, Some, length, slice_get, refl, ap, ◌∙◌}
use Rattle.std.proofs.lemmas.Option.{none-some, same_Some}

pub get_left : {X : Type 0} (xs ys : List X) (i : ℕ) (y : X) → slice_get xs i ≡ Some y
    → slice_get (xs ++ ys) i ≡ Some y
get_left [] ys i y e = absurd (none-some y e)
get_left (x ∷ xs) ys zero y e = e
get_left (x ∷ xs) ys (suc i) y e = get_left xs ys i y e

pub get_last : {X : Type 0} (xs : List X) (x : X) (i : ℕ) → i ≡ length xs → slice_get (xs ++ x ∷ []) i ≡ Some x
get_last xs x i e = ap (slice_get (xs ++ x ∷ [])) e ∙ last xs
  where
    last : (xs : List _) → slice_get (xs ++ x ∷ []) (length xs) ≡ Some x
    last [] = refl
    last (y ∷ ys) = last ys

pub get_cases : {X : Type 0} (xs : List X) (x y : X) (i : ℕ) → slice_get (xs ++ x ∷ []) i ≡ Some y
    → (slice_get xs i ≡ Some y) ⊎ ((i ≡ length xs) × (x ≡ y))
get_cases [] x y zero e = inr (refl, same_Some x y e)
get_cases [] x y (suc i) e = absurd (none-some y e)
get_cases (z ∷ xs) x y zero e = inl e
get_cases (z ∷ xs) x y (suc i) e = ⊎_elim (λ l. inl l) (λ r. inr (ap suc r.0, r.1)) (get_cases xs x y i e)
