-- Two lists compared item by item, up to where a loop is.
use Rattle.std.proofs.Common.{◌≡◌, ◌≢◌, ℕ, suc, ◌+◌, ◌<◌, ◌≤◌, Bool, true, false, ◌&&◌, List, [], ◌∷◌, length, get_or, drop, refl, ap, ◌∙◌, add-one}
use Rattle.std.proofs.Math.Seq.{drop-cons}
use Rattle.std.proofs.Math.ListN.{drop_of_length-le}
use Rattle.std.specs.Cmp.Lexicographic.{pointwise}

module _ {A B : Type 0} (E : A → B → Bool) where
  and_false : (a : Bool) → (a && false) ≡ false
  and_false true = refl
  and_false false = refl

  pub of_lengths : (xs : List A) (ys : List B) → length xs ≢ length ys → pointwise E xs ys ≡ false
  of_lengths [] [] n = absurd (n refl)
  of_lengths [] (y ∷ ys) n = refl
  of_lengths (x ∷ xs) [] n = refl
  of_lengths (x ∷ xs) (y ∷ ys) n = ap (λ r. E x y && r) (of_lengths xs ys (λ e. n (ap suc e))) ∙ and_false (E x y)

  pub step : (xs : List A) (ys : List B) (i : ℕ) (x : A) (y : B) → i < length xs → i < length ys
      → pointwise E (drop i xs) (drop i ys)
      ≡ (E (get_or xs i x) (get_or ys i y) && pointwise E (drop (i + 1) xs) (drop (i + 1) ys))
  step xs ys i x y h k = rw (add-one, drop-cons xs i x, drop-cons ys i y) refl

  pub ended : (xs : List A) (ys : List B) (i : ℕ) → length xs ≤ i → length ys ≤ i
      → pointwise E (drop i xs) (drop i ys) ≡ true
  ended xs ys i h k = rw (drop_of_length-le xs h, drop_of_length-le ys k) refl
