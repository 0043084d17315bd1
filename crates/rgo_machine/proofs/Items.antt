-- Lists of which one item is replaced.
use Rattle.std.proofs.Common.{◌≡◌, ℕ, zero, suc, List, [], ◌∷◌, slice_get, slice_set, refl, ap}

-- another item stays
pub other_item : {X : Type 0} (l : List X) (k n : ℕ) (x : X) → (n ≡ k → ⊥)
    → slice_get (slice_set l k x) n ≡ slice_get l n
other_item [] k n x differ = refl
other_item (y ∷ l) zero zero x differ = absurd (differ refl)
other_item (y ∷ l) zero (suc n) x differ = refl
other_item (y ∷ l) (suc k) zero x differ = refl
other_item (y ∷ l) (suc k) (suc n) x differ = other_item l k n x (λ e. differ (ap suc e))

-- replaced again
pub set_twice : {X : Type 0} (l : List X) (n : ℕ) (x y : X) → slice_set (slice_set l n x) n y ≡ slice_set l n y
set_twice [] n x y = refl
set_twice (z ∷ l) zero x y = refl
set_twice (z ∷ l) (suc n) x y = ap (λ m. z ∷ m) (set_twice l n x y)
