-- Cells that hold nothing. The place after the newest value is free because fewer than a whole turn of cells lies between them.
use Rattle.std.proofs.Common.{◌≡◌, ℕ, zero, suc, ◌+◌, ◌*◌, ◌/◌, ◌%◌, ◌<◌, ◌≤◌, ◌⊎◌, ap, ◌∙◌, inl, inr, ⊎_elim, arith}
use Rattle.std.proofs.Math.Nat.{div-add-mod, mod-lt, mul-le-mul_left, mul-suc}
use Rattle.rgo_core.specs.Channels.Controls.{count_of, head_of}
use Rattle.rgo_core.specs.Channels.Locking.{IsSpare}

either_way : (p q : ℕ) → (q ≤ p) ⊎ (suc p ≤ q)
either_way p zero = inl (omega arith)
either_way zero (suc q) = inr (omega arith)
either_way (suc p) (suc q) = ⊎_elim (λ u. inl (omega arith)) (λ u. inr (omega arith)) (either_way p q)

-- two numbers with one rest are not less than a whole turn apart
apart : (size x y p q r : ℕ) → size * p + r ≡ x → size * q + r ≡ y → x < y → y < x + size → ⊥
apart size x y p q r a b lt near = ⊎_elim
    (λ le. let m = mul-le-mul_left {m = q} {n = p} size le in omega arith)
    (λ less. let m = mul-le-mul_left {m = suc p} {n = q} size less in let s = mul-suc size p in omega arith)
    (either_way p q)

-- the cell after the newest value
pub next_spare : (n size : ℕ) → count_of n < size → IsSpare n size ((head_of n + count_of n) % size)
next_spare n size room = (
  (let b : (head_of n + count_of n) % size < size = mod-lt (head_of n + count_of n) (omega arith) in omega arith),
  (λ j h p e. let a = div-add-mod (head_of n + j) size in
      let b = div-add-mod (head_of n + count_of n) size in
      apart size (head_of n + j) (head_of n + count_of n) ((head_of n + j) / size) ((head_of n + count_of n) / size)
      ((head_of n + j) % size) a (ap (λ (x : ℕ). size * ((head_of n + count_of n) / size) + x) e ∙ b) (omega arith) (omega arith)),
  λ e. absurd (omega (arith, e, room)),
)

-- the one cell of a channel without a buffer, where there is no offer
pub only_spare : (n : ℕ) → count_of n ≡ 0 → IsSpare n 0 0
only_spare n none = (omega arith, (λ j h p e. absurd (omega (arith, p))), λ e one. absurd (omega (arith, none, one)))
