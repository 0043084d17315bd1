-- How many bytes at a front pass a test, and that a front of the text shows it.
use Rattle.std.proofs.Common.{◌≡◌, ℕ, zero, suc, ◌+◌, ◌<◌, ◌≤◌, Bool, true, false, cond, List, [], ◌∷◌, take, refl, ap, arith}
use Rattle.std.specs.List.{prefix_len}

step : (passes : Bool) (a b n : ℕ) → (b ≤ n → a ≡ b) → cond passes (1 + b) 0 ≤ suc n
    → cond passes (1 + a) 0 ≡ cond passes (1 + b) 0
step true a b n same h = ap (λ k. 1 + k) (same (omega (arith, h)))
step false a b n same h = refl

none : (passes : Bool) (b : ℕ) → cond passes (1 + b) 0 ≤ 0 → 0 ≡ cond passes (1 + b) 0
none true b h = omega (arith, h)
none false b h = refl

-- a front that is at least as long has the same bytes at its front
pub prefix_len-take : (p : ℕ → Bool) (xs : List ℕ) (n : ℕ) → prefix_len p xs ≤ n
    → prefix_len p (take n xs) ≡ prefix_len p xs
prefix_len-take p [] zero h = refl
prefix_len-take p [] (suc n) h = refl
prefix_len-take p (x ∷ xs) zero h = none (p x) (prefix_len p xs) h
prefix_len-take p (x ∷ xs) (suc n) h =
    step (p x) (prefix_len p (take n xs)) (prefix_len p xs) n (prefix_len-take p xs n) h

pub prefix_len_some : (p : ℕ → Bool) (x : ℕ) (xs : List ℕ) → p x ≡ true → 0 < prefix_len p (x ∷ xs)
prefix_len_some p x xs h = rw h (omega arith)
