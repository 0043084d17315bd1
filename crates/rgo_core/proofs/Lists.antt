-- Lists by position, words after a write, and sums over lists. The rule and the machine read lists by different functions, which are
-- shown to agree here once.
use Rattle.std.proofs.Common.{◌≡◌, ◌≢◌, ℕ, zero, suc, ◌+◌, ◌*◌, ◌<◌, ◌≤◌, ◌==◌, cond, Bool, true, false, List, [], ◌∷◌, ◌++◌, Some, length, take, slice_get, slice_set, slice_index, sum_by, count_by, refl, ap, sym, ◌∙◌, arith, append_assoc, suc-mul}
use Rattle.std.proofs.lemmas.Bool.Decides.{nat_tests}
use Rattle.std.proofs.lemmas.List.{append-nil, get_or-set_same, get_or-set_other}
use Rattle.std.proofs.lemmas.List.Sums.{sum_by-cons, sum_by_push}
use Rattle.std.proofs.lemmas.Option.{same_Some}
use mathlib.Core.Option.{some, some-injective, some-ne-none}
use lib.ListN.{get_elem?}
use Rattle.rgo_core_rule.specs.Lists.{flattened}

-- the rule's lists and the machine's
pub elem_of : {A : Type 0} (l : List A) (i : ℕ) (a : A) → slice_get l i ≡ Some a → get_elem? l i ≡ some a
elem_of [] i a e = cc
elem_of (x ∷ l) zero a e = ap some (same_Some x a e)
elem_of (x ∷ l) (suc i) a e = elem_of l i a e

pub get_of : {A : Type 0} (l : List A) (i : ℕ) (a : A) → get_elem? l i ≡ some a → slice_get l i ≡ Some a
get_of [] i a e = absurd (some-ne-none a (sym e))
get_of (x ∷ l) zero a e = ap Some (some-injective x a e)
get_of (x ∷ l) (suc i) a e = get_of l i a e

pub take_before : {A : Type 0} (k : ℕ) (xs ys : List A) → k ≤ length xs → take k (xs ++ ys) ≡ take k xs
take_before zero xs ys h = refl
take_before (suc k) [] ys h = absurd (omega arith)
take_before (suc k) (x ∷ xs) ys h = ap (λ (l : List _). x ∷ l) (take_before k xs ys (omega arith))

pub flattened_snoc : (xs : List (List ℕ)) (b : List ℕ) → flattened (xs ++ b ∷ []) ≡ flattened xs ++ b
flattened_snoc [] b = append-nil b
flattened_snoc (x ∷ xs) b = ap (λ (l : List ℕ). x ++ l) (flattened_snoc xs b) ∙ sym (append_assoc x (flattened xs) b)

-- ---- words

pub word_same : (words : List ℕ) (i j x : ℕ) → j ≢ i → slice_index (slice_set words i x) j ≡ slice_index words j
word_same words i j x n = get_or-set_other words i j x 0 n

pub word_new : (words : List ℕ) (i x : ℕ) → i < length words → slice_index (slice_set words i x) i ≡ x
word_new words i x h = get_or-set_same words i x 0 h

-- ---- sums

module _ {A : Type 0} (f : A → ℕ) where
  pub sum_set : (xs : List A) (g : ℕ) (c d : A) → slice_get xs g ≡ Some c → sum_by f (slice_set xs g d) + f c ≡ sum_by f xs + f d
  sum_set [] g c d e = cc
  sum_set (x ∷ xs) zero c d e =
      let a = sum_by-cons f d xs in
      let b = sum_by-cons f x xs in
      let s : f x ≡ f c = ap f (same_Some x c e) in
      omega arith
  sum_set (x ∷ xs) (suc g) c d e =
      let a = sum_by-cons f x (slice_set xs g d) in
      let b = sum_by-cons f x xs in
      let h = sum_set xs g c d e in
      omega arith

  pub sum_same : (xs : List A) (g : ℕ) (c d : A) → slice_get xs g ≡ Some c → f d ≡ f c → sum_by f (slice_set xs g d) ≡ sum_by f xs
  sum_same xs g c d e same = let t = sum_set xs g c d e in omega arith

  pub sum_most : (xs : List A) (m : ℕ) → ((g : ℕ) (c : A) → slice_get xs g ≡ Some c → f c ≤ m) → sum_by f xs ≤ length xs * m
  sum_most [] m each = omega arith
  sum_most (x ∷ xs) m each =
      let h = sum_most xs m (λ g c e. each (suc g) c e) in
      let k = each 0 x refl in
      let s : suc (length xs) * m ≡ length xs * m + m = suc-mul (length xs) m in
      let a = sum_by-cons f x xs in
      omega arith

abbrev pub one_if : Bool → ℕ
one_if t = cond t 1 0

pub count_push : {A : Type 0} (p : A → Bool) (xs : List A) (x : A) → count_by p (xs ++ x ∷ []) ≡ count_by p xs + one_if (p x)
count_push p xs x = sum_by_push (λ y. one_if (p y)) xs x

pub count_first : {A : Type 0} (p : A → Bool) (x : A) (xs : List A) → count_by p (x ∷ xs) ≡ one_if (p x) + count_by p xs
count_first p x xs = sum_by-cons (λ y. one_if (p y)) x xs

pub cond_same : (a b : ℕ) → a ≡ b → one_if (a == b) ≡ 1
cond_same a b e = go (a == b) (grind (arith, nat_tests))
  where
    go : (t : Bool) → t ≡ true → one_if t ≡ 1
    go t e = rw e refl

pub cond_other : (a b : ℕ) → a ≢ b → one_if (a == b) ≡ 0
cond_other a b e = go (a == b) (grind (arith, nat_tests))
  where
    go : (t : Bool) → t ≡ false → one_if t ≡ 0
    go t e = rw e refl
