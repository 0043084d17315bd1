-- Lists by position, and numbers chosen by a test.
use Rattle.std.proofs.Common.{◌≡◌, ℕ, zero, suc, ◌<◌, ◌≢◌, ◌⊎◌, ◌==◌, Bool, true, false, List, [], ◌∷◌, ◌++◌, length, set, slice_index, if◌then◌else◌, refl, ap, sym, ◌∙◌, inl, inr, ⊎_elim, arith, append_assoc}
use mathlib.Core.Option.{some, some-injective, some-ne-none}
use lib.ListN.{get_elem?}
use Rattle.std.proofs.lemmas.Bool.Decides.{nat_tests}
use Rattle.std.proofs.lemmas.List.{append-nil}
use Rattle.rgo_core_rule.specs.Lists.{flattened}

pub at_below : {A : Type 0} (l : List A) (i : ℕ) (a : A) → get_elem? l i ≡ some a → i < length l
at_below [] i a e = absurd (some-ne-none a (sym e))
at_below (x ∷ xs) zero a e = omega arith
at_below (x ∷ xs) (suc i) a e = let h = at_below xs i a e in omega arith

-- which element of a longer list is at a position
pub snoc_at : {A : Type 0} (l : List A) (a b : A) (j : ℕ) → get_elem? (l ++ a ∷ []) j ≡ some b → (get_elem? l j ≡ some b) ⊎ ((j ≡ length l) × (a ≡ b))
snoc_at [] a b zero e = inr (refl, some-injective a b e)
snoc_at [] a b (suc j) e = absurd (some-ne-none b (sym e))
snoc_at (x ∷ l) a b zero e = inl e
snoc_at (x ∷ l) a b (suc j) e = ⊎_elim (λ t. inl t) (λ t. inr (ap suc t.0, t.1)) (snoc_at l a b j e)

pub append_at : {A : Type 0} (xs ys : List A) (i : ℕ) (a : A) → get_elem? (xs ++ ys) i ≡ some a → (get_elem? xs i ≡ some a) ⊎ ((j : ℕ)
    × (get_elem? ys j ≡ some a))
append_at [] ys i a e = inr (i, e)
append_at (x ∷ xs) ys zero a e = inl e
append_at (x ∷ xs) ys (suc i) a e = append_at xs ys i a e

pub at_append : {A : Type 0} (xs ys : List A) (i : ℕ) (a : A) → get_elem? ys i ≡ some a → (j : ℕ) × (get_elem? (xs ++ ys) j ≡ some a)
at_append [] ys i a e = (i, e)
at_append (x ∷ xs) ys i a e = let r = at_append xs ys i a e in (suc r.0, r.1)

pub below_at : {A : Type 0} (l : List A) (i : ℕ) → i < length l → (a : A) × (get_elem? l i ≡ some a)
below_at [] i h = absurd (omega arith)
below_at (x ∷ xs) zero h = (x, refl)
below_at (x ∷ xs) (suc i) h = below_at xs i (omega arith)

abbrev tail_of : {A : Type 0} → List A → List A
tail_of [] = []
tail_of (x ∷ xs) = xs

pub cancel : {A : Type 0} (xs ys zs : List A) → xs ++ ys ≡ xs ++ zs → ys ≡ zs
cancel [] ys zs e = e
cancel (x ∷ xs) ys zs e = cancel xs ys zs (ap tail_of e)

pub if_same : (j g : ℕ) (a b : ℕ) → j ≡ g → (if j == g then a else b) ≡ a
if_same j g a b e = go (j == g) (grind (arith, nat_tests))
  where
    go : (t : Bool) → t ≡ true → (if t then a else b) ≡ a
    go t e = rw e refl

pub if_other : (j g : ℕ) (a b : ℕ) → j ≢ g → (if j == g then a else b) ≡ b
if_other j g a b e = go (j == g) (grind (arith, nat_tests))
  where
    go : (t : Bool) → t ≡ false → (if t then a else b) ≡ b
    go t e = rw e refl

pub set_own : (l : List ℕ) (i : ℕ) → set l i (slice_index l i) ≡ l
set_own [] i = refl
set_own (x ∷ l) zero = refl
set_own (x ∷ l) (suc i) = ap (λ (z : List ℕ). x ∷ z) (set_own l i)

pub set_twice : {A : Type 0} (l : List A) (i : ℕ) (a b : A) → set (set l i a) i b ≡ set l i b
set_twice [] i a b = refl
set_twice (x ∷ l) zero a b = refl
set_twice (x ∷ l) (suc i) a b = ap (λ (z : List _). x ∷ z) (set_twice l i a b)

pub flattened_more : {E : Type 0} (gs : List (List E)) (g : List E) → flattened (gs ++ g ∷ []) ≡ flattened gs ++ g
flattened_more [] g = append-nil g
flattened_more {E = E} (x ∷ gs) g = ap (λ (l : List E). x ++ l) (flattened_more gs g) ∙ sym (append_assoc x (flattened gs) g)
