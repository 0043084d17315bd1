-- Lists: a write of the old element, nothing after the end, and elements that were appended.
use Rattle.std.proofs.Common.{◌≡◌, ◌⊎◌, ℕ, zero, suc, ◌+◌, ◌≤◌, List, [], ◌∷◌, ◌++◌, length, replicate, Some, None, refl, ap}
use Rattle.std.proofs.Common.{slice_get, slice_set, slice_index, inl, inr, ⊎_elim, arith}
use Rattle.std.proofs.lemmas.Option.{same_Some}

pub set_own : (l : List ℕ) (i : ℕ) → slice_set l i (slice_index l i) ≡ l
set_own [] i = refl
set_own (x ∷ l) zero = refl
set_own (x ∷ l) (suc i) = ap (λ (z : List ℕ). x ∷ z) (set_own l i)

pub none_past : {X : Type 0} (xs : List X) (i : ℕ) → i ≡ length xs → slice_get xs i ≡ None
none_past [] i e = refl
none_past (x ∷ xs) zero e = absurd (omega (arith, e))
none_past (x ∷ xs) (suc i) e = none_past xs i (omega (arith, e))

pub get_replicated : {X : Type 0} (n : ℕ) (a : X) (i : ℕ) (y : X) → slice_get (replicate n a) i ≡ Some y → a ≡ y
get_replicated zero a i y e = absurd (let z : None ≡ Some y = e in cc z)
get_replicated (suc n) a zero y e = same_Some a y e
get_replicated (suc n) a (suc i) y e = get_replicated n a i y e

-- an element is in the first list, or is one of those appended
pub old_or_new : {X : Type 0} (xs : List X) (n : ℕ) (a : X) (i : ℕ) (y : X)
    → slice_get (xs ++ replicate n a) i ≡ Some y → (slice_get xs i ≡ Some y) ⊎ ((length xs ≤ i) × (a ≡ y))
old_or_new [] n a i y e = inr (omega arith, get_replicated n a i y e)
old_or_new (x ∷ xs) n a zero y e = inl e
old_or_new (x ∷ xs) n a (suc i) y e =
    ⊎_elim (λ t. inl t) (λ t. let h = t.0 in inr (omega arith, t.1)) (old_or_new xs n a i y e)

pub length_more : {X : Type 0} (xs : List X) (n : ℕ) (a : X) → length (xs ++ replicate n a) ≡ length xs + n
length_more [] zero a = refl
length_more [] (suc n) a = let h = length_more [] n a in omega arith
length_more (x ∷ xs) n a = let h = length_more xs n a in omega arith
