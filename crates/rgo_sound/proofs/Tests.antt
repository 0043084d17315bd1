-- Facts about truth values and about tests on numbers.
use Rattle.std.proofs.Common.{◌≡◌, ℕ, Bool, true, false, ◌&&◌, ◌||◌, refl, sym, nat_eq, arith, true≢false}
use Rattle.rgo_sound.specs.Stakes.{one_when}

-- the third of four
pub and_third : (a b c d : Bool) → (a && b && c && d) ≡ true → c ≡ true
and_third true true true d q = refl
and_third true true false d q = q
and_third true false c d q = absurd (true≢false (sym q))
and_third false b c d q = absurd (true≢false (sym q))

-- nothing is counted if the second test is false
pub none_if : (b : Bool) → one_when (b && false) ≡ 0
none_if true = refl
none_if false = refl

pub nat_eq_refl : (a : ℕ) → nat_eq a a ≡ true
nat_eq_refl a = grind arith

pub nat_ne_sym : (a b : ℕ) → nat_eq a b ≡ false → nat_eq b a ≡ false
nat_ne_sym a b h = grind arith

pub eq_of : (a b : ℕ) → nat_eq a b ≡ true → a ≡ b
eq_of a b e = grind arith

-- case analysis on a test, with the equation of each case at hand
pub split : {A : Type 0} (b : Bool) → (b ≡ true → A) → (b ≡ false → A) → A
split true f g = f refl
split false f g = g refl

pub or_right : (a b : Bool) → (a || b) ≡ false → b ≡ false
or_right true b e = cc
or_right false b e = e

-- it is enough that the second is true
pub or_there : (a b : Bool) → b ≡ true → (a || b) ≡ true
or_there true b e = refl
or_there false b e = e

pub and_split : (a b : Bool) → (a && b) ≡ true → (a ≡ true) × (b ≡ true)
and_split true b e = (refl, e)
and_split false b e = absurd (true≢false (sym e))

pub ne_of : (a b : ℕ) → (a ≡ b → ⊥) → nat_eq a b ≡ false
ne_of a b h = split (nat_eq a b) (λ t. absurd (h (eq_of a b t))) (λ n. n)
