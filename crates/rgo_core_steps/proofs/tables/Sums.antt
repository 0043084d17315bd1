-- Sums over lists: which position contributes, and that two positions contribute both. A sum of 1 thus has exactly one contributor.
use Rattle.std.proofs.Common.{◌≡◌, ◌≢◌, ℕ, zero, suc, ◌+◌, ◌<◌, ◌≤◌, ◌==◌, Bool, true, false, List, [], ◌∷◌, Some, slice_get, sum_by, refl, ap, arith}
use Rattle.std.proofs.lemmas.Bool.Decides.{nat_tests}
use Rattle.std.proofs.lemmas.List.Sums.{sum_by-cons}
use Rattle.std.proofs.lemmas.Option.{same_Some}
use mathlib.Core.Logic.{dite}
use native.Mathlib.Decide.{dec_le}
use Rattle.rgo_core.proofs.Lists.{one_if}

module _ {A : Type 0} (f : A → ℕ) where
  pub part_of : (xs : List A) (i : ℕ) (x : A) → slice_get xs i ≡ Some x → f x ≤ sum_by f xs
  part_of [] i x e = cc
  part_of (y ∷ ys) zero x e = let c = sum_by-cons f y ys in let s : f y ≡ f x = ap f (same_Some y x e) in omega arith
  part_of (y ∷ ys) (suc i) x e = let c = sum_by-cons f y ys in let r = part_of ys i x e in omega arith

  pub parts_of : (xs : List A) (i j : ℕ) (x y : A) → i ≢ j → slice_get xs i ≡ Some x → slice_get xs j ≡ Some y → f x + f y ≤ sum_by f xs
  parts_of [] i j x y ne e d = cc
  parts_of (z ∷ zs) zero zero x y ne e d = absurd (ne refl)
  parts_of (z ∷ zs) zero (suc j) x y ne e d =
      let c = sum_by-cons f z zs in let s : f z ≡ f x = ap f (same_Some z x e) in let r = part_of zs j y d in omega arith
  parts_of (z ∷ zs) (suc i) zero x y ne e d =
      let c = sum_by-cons f z zs in let s : f z ≡ f y = ap f (same_Some z y d) in let r = part_of zs i x e in omega arith
  parts_of (z ∷ zs) (suc i) (suc j) x y ne e d =
      let c = sum_by-cons f z zs in let r = parts_of zs i j x y (λ q. ne (ap suc q)) e d in omega arith

  pub who_of : (xs : List A) → 0 < sum_by f xs → (i : ℕ) × (x : A) × (slice_get xs i ≡ Some x) × (0 < f x)
  who_of [] p = absurd (omega arith)
  who_of (y ∷ ys) p = dite (dec_le 1 (f y))
      (λ h. (0, y, refl, h))
      (λ h. let c = sum_by-cons f y ys in let r = who_of ys (omega arith) in (suc r.0, r.1, r.2, r.3))

-- which element a count counts
pub counts_it : (n t : ℕ) → 0 < one_if (n == t) → n ≡ t
counts_it n t p = go (n == t) refl
  where
    go : (b : Bool) → (n == t) ≡ b → n ≡ t
    go true e = grind (arith, nat_tests)
    go false e = let z : one_if (n == t) ≡ 0 = ap one_if e in absurd (omega arith)
