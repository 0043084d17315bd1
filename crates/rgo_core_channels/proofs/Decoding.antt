-- Arithmetic of controls, and of a ring of cells: quotients and remainders of a sum whose parts are in separate bits.
use Rattle.std.proofs.Common.{◌≡◌, ℕ, suc, ◌+◌, ◌%◌, ◌<◌, ◌≤◌, Bool, true, false, refl, ap, sym, ◌∙◌, arith}
use Rattle.std.proofs.Math.Nat.{mod-eq_of_lt, add-mod_left, mod_self}
use mathlib.Core.Logic.{dite}
use native.Mathlib.Decide.{ℕ_discrete}
use Rattle.rgo_core_channels.specs.Channels.{Lock, Unlocked, LockedBy, lock_bit}
use Rattle.rgo_core_channels.specs.Controls.{bit, control, closed_of, count_of, head_of, extent}

-- the lock bit hides nothing
pub decode_locked : (l b m h : ℕ) → l ≤ 1 → b ≤ 1 → m < 1073741824
    → (closed_of (l + control b m h) ≡ b) × (count_of (l + control b m h) ≡ m) × (head_of (l + control b m h) ≡ h)
decode_locked l b m h hl hb hm = (omega arith, omega arith, omega arith)

pub decode : (b m h : ℕ) → b ≤ 1 → m < 1073741824
    → (closed_of (control b m h) ≡ b) × (count_of (control b m h) ≡ m) × (head_of (control b m h) ≡ h)
decode b m h hb hm = (omega arith, omega arith, omega arith)

pub bit_small : (b : Bool) → bit b ≤ 1
bit_small true = omega arith
bit_small false = omega arith

pub lock_small : (l : Lock) → lock_bit l ≤ 1
lock_small Unlocked = omega arith
lock_small (LockedBy g) = omega arith

pub some_cell : (n : ℕ) → 0 < extent n
some_cell n = omega arith

pub extent_is : (n : ℕ) → 0 < n → extent n ≡ n
extent_is n h = omega arith

pub even_control : (b m h : ℕ) → control b m h % 2 ≡ 0
even_control b m h = omega arith

pub open_or : (b : Bool) → bit b ≡ 0 → b ≡ false
open_or true e = absurd (omega arith)
open_or false e = refl

pub shut_or : (b : Bool) → bit b ≡ 1 → b ≡ true
shut_or true e = refl
shut_or false e = absurd (omega arith)

-- the place after the head
pub turned : (h j n : ℕ) → h < n → ((h + 1) % n + j) % n ≡ (h + suc j) % n
turned h j n lt = dite (ℕ_discrete (h + 1) n)
    (λ e. let z : (h + 1) % n ≡ 0 = ap (λ (x : ℕ). x % n) e ∙ mod_self n in
    let a : (h + 1) % n + j ≡ j = omega arith in
    let b : h + suc j ≡ n + j = omega arith in
    ap (λ (x : ℕ). x % n) a ∙ (sym (add-mod_left n j) ∙ ap (λ (x : ℕ). x % n) (sym b)))
    (λ ne. let z : (h + 1) % n ≡ h + 1 = mod-eq_of_lt (omega arith) in
    let a : (h + 1) % n + j ≡ h + suc j = omega arith in
    ap (λ (x : ℕ). x % n) a)
