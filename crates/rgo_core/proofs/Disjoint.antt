-- Two rows of words that do not overlap.
use Rattle.std.proofs.Common.{◌≢◌, ◌⊎◌, ℕ, zero, suc, ◌+◌, ◌-◌, ◌<◌, ◌≤◌, inl, inr, ⊎_elim, arith}

pub order : (m n : ℕ) → (m < n) ⊎ (n ≤ m)
order m zero = inr (omega arith)
order zero (suc n) = inl (omega arith)
order (suc m) (suc n) = ⊎_elim (λ l. inl (omega (arith, l))) (λ l. inr (omega (arith, l))) (order m n)

pub rows_apart : (a n b m : ℕ) → 0 < n → 0 < m → ((i j : ℕ) → i < n → j < m → a + i ≢ b + j)
    → (a + n ≤ b) ⊎ (b + m ≤ a)
rows_apart a n b m p q apart = ⊎_elim
    (λ (l : b < a + n). ⊎_elim
    (λ (k : a < b + m). absurd (⊎_elim
    (λ (h : a < b). apart (b - a) 0 (omega (arith, l, h)) q (omega (arith, h)))
    (λ (h : b ≤ a). apart 0 (a - b) p (omega (arith, k, h)) (omega (arith, h)))
    (order a b)))
    (λ (k : b + m ≤ a). inr k)
    (order a (b + m)))
    (λ (l : a + n ≤ b). inl l)
    (order b (a + n))
