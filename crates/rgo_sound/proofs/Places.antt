-- Lists by position: after a write, in a longer list, and of each element; and membership. The machine's states are lists by number, so
-- every part of the proof cites these lemmas; none of them speaks of regions.
use Rattle.std.proofs.Common.{◌≡◌, ℕ, zero, suc, ◌+◌, ◌<◌, false, List, [], ◌∷◌, ◌++◌, length, Some, refl, ap, subst}
use Rattle.std.proofs.Common.{nat_eq, arith, ◌⊎◌, inl, inr, slice_get, slice_set, slice_index, replicate, rules}
use Rattle.std.proofs.lemmas.Option.{same_Some}
use Rattle.std.specs.List.{Contains}
use Rattle.std.specs.List.Sorted.{IsStrictlyIncreasing}
use Rattle.std.proofs.lemmas.List.Kept.{AllPairs-from_increasing}
use Rattle.rgo_sound.proofs.Tests.{eq_of, split}
use Rattle.rgo_sound.specs.Types.{Each}

-- ---- after a write

pub get_set_same : {X : Type 0} (xs : List X) (i : ℕ) (u v : X) → slice_get xs i ≡ Some u
    → slice_get (slice_set xs i v) i ≡ Some v
get_set_same [] i u v h = cc
get_set_same (x ∷ xs) zero u v h = refl
get_set_same (x ∷ xs) (suc i) u v h = get_set_same xs i u v h

pub get_set_other : {X : Type 0} (xs : List X) (i j : ℕ) (v : X) → nat_eq i j ≡ false → slice_get (slice_set xs i v) j
    ≡ slice_get xs j
get_set_other [] i j v h = refl
get_set_other (x ∷ xs) zero zero v h = absurd (omega (arith, zero_not h))
  where
    zero_not : nat_eq zero zero ≡ false → ⊥
    zero_not h = grind arith
get_set_other (x ∷ xs) zero (suc j) v h = refl
get_set_other (x ∷ xs) (suc i) zero v h = refl
get_set_other (x ∷ xs) (suc i) (suc j) v h = get_set_other xs i j v (down i j h)
  where
    down : (i j : ℕ) → nat_eq (suc i) (suc j) ≡ false → nat_eq i j ≡ false
    down i j h = grind arith

pub length_set : {X : Type 0} (xs : List X) (i : ℕ) (v : X) → length (slice_set xs i v) ≡ length xs
length_set [] i v = refl
length_set (x ∷ xs) zero v = refl
length_set (x ∷ xs) (suc i) v = let e = length_set xs i v in omega (arith, e)

pub get_some : {X : Type 0} (xs : List X) (i : ℕ) → i < length xs → (x : X) × (slice_get xs i ≡ Some x)
get_some [] i h = absurd (omega (arith, h))
get_some (y ∷ ys) zero h = (y, refl)
get_some (y ∷ ys) (suc i) h = get_some ys i (omega (arith, h))

-- the element at a position of a list with one more at its end
pub get_snoc : {X : Type 0} (xs : List X) (x : X) (i : ℕ) (y : X) → slice_get (xs ++ x ∷ []) i ≡ Some y
    → (slice_get xs i ≡ Some y) ⊎ ((i ≡ length xs) × (y ≡ x))
get_snoc [] x zero y h = inr (refl, cc)
get_snoc [] x (suc i) y h = cc
get_snoc (z ∷ zs) x zero y h = inl h
get_snoc (z ∷ zs) x (suc i) y h = go (get_snoc zs x i y h)
  where
    go : (slice_get zs i ≡ Some y) ⊎ ((i ≡ length zs) × (y ≡ x)) → (slice_get zs i ≡ Some y)
        ⊎ ((suc i ≡ length (z ∷ zs)) × (y ≡ x))
    go (inl e) = inl e
    go (inr (e, f)) = inr (omega (arith, e), f)

-- ---- the first, and the rest

pub head_is : {X : Type 0} (x y : X) (xs ys : List X) → x ∷ xs ≡ y ∷ ys → x ≡ y
head_is x y xs ys e = cc

pub tail_is : {X : Type 0} (x y : X) (xs ys : List X) → x ∷ xs ≡ y ∷ ys → xs ≡ ys
tail_is x y xs ys e = cc

pub no_cons : {X : Type 0} (x : X) (xs : List X) → ◌≡◌ {A = List X} [] (x ∷ xs) → ⊥
no_cons x xs e = cc

-- ---- one list after another

pub get_front : {X : Type 0} (xs ys : List X) (i : ℕ) (x : X) → slice_get xs i ≡ Some x → slice_get (xs ++ ys) i ≡ Some x
get_front [] ys i x e = cc
get_front (y ∷ xs) ys zero x e = e
get_front (y ∷ xs) ys (suc i) x e = get_front xs ys i x e

pub get_append_left : {X : Type 0} (xs ys : List X) (i : ℕ) → i < length xs → slice_get (xs ++ ys) i ≡ slice_get xs i
get_append_left [] ys i h = absurd (omega (arith, h))
get_append_left (x ∷ xs) ys zero h = refl
get_append_left (x ∷ xs) ys (suc i) h = get_append_left xs ys i (omega (arith, h))

pub get_append_last : {X : Type 0} (xs : List X) (y : X) (i : ℕ) → i ≡ length xs → slice_get (xs ++ y ∷ []) i ≡ Some y
get_append_last [] y zero e = refl
get_append_last [] y (suc i) e = absurd (omega (arith, e))
get_append_last (x ∷ xs) y zero e = absurd (omega (arith, e))
get_append_last (x ∷ xs) y (suc i) e = get_append_last xs y i (omega (arith, e))

pub get_append_cases : {X : Type 0} (xs ys : List X) (i : ℕ) (x : X) → slice_get (xs ++ ys) i ≡ Some x
    → (slice_get xs i ≡ Some x) ⊎ ((j : ℕ) × (slice_get ys j ≡ Some x))
get_append_cases [] ys i x e = inr (i, e)
get_append_cases (y ∷ xs) ys zero x e = inl e
get_append_cases (y ∷ xs) ys (suc i) x e = get_append_cases xs ys i x e

-- an element of two lists together is at a position of one of them
pub get_append_place : {X : Type 0} (xs ys : List X) (i : ℕ) (x : X) → slice_get (xs ++ ys) i ≡ Some x
    → (slice_get xs i ≡ Some x) ⊎ ((j : ℕ) × (i ≡ length xs + j) × (slice_get ys j ≡ Some x))
get_append_place [] ys i x e = inr (i, omega arith, e)
get_append_place (y ∷ xs) ys zero x e = inl e
get_append_place (y ∷ xs) ys (suc i) x e = go (get_append_place xs ys i x e)
  where
    go : (slice_get xs i ≡ Some x) ⊎ ((j : ℕ) × (i ≡ length xs + j) × (slice_get ys j ≡ Some x))
        → (slice_get xs i ≡ Some x) ⊎ ((j : ℕ) × (suc i ≡ length (y ∷ xs) + j) × (slice_get ys j ≡ Some x))
    go (inl e) = inl e
    go (inr (j, l, e)) = inr (j, omega (arith, l), e)

pub get_append_right : {X : Type 0} (xs ys : List X) (i j : ℕ) → i ≡ length xs + j → slice_get (xs ++ ys) i
    ≡ slice_get ys j
get_append_right [] ys i j e = ap (slice_get ys) (omega (arith, e))
get_append_right (x ∷ xs) ys zero j e = absurd (omega (arith, e))
get_append_right (x ∷ xs) ys (suc i) j e = get_append_right xs ys i j (omega (arith, e))

-- ---- of each

module _ {X : Type 0} (P : X → Type 0) where
  pub each_get : (xs : List X) (i : ℕ) (x : X) → Each P xs → slice_get xs i ≡ Some x → P x
  each_get [] i x h e = cc
  each_get (y ∷ ys) zero x h e = subst P (same_Some y x e) h.0
  each_get (y ∷ ys) (suc i) x h e = each_get ys i x h.1 e

  pub each_set : (xs : List X) (i : ℕ) (x : X) → Each P xs → P x → Each P (slice_set xs i x)
  each_set [] i x h p = tt
  each_set (y ∷ ys) zero x h p = (p, h.1)
  each_set (y ∷ ys) (suc i) x h p = (h.0, each_set ys i x h.1 p)

  pub each_snoc : (xs : List X) (x : X) → Each P xs → P x → Each P (xs ++ x ∷ [])
  each_snoc [] x h p = (p, tt)
  each_snoc (y ∷ ys) x h p = (h.0, each_snoc ys x h.1 p)

  pub each_replicate : (n : ℕ) (x : X) → P x → Each P (replicate n x)
  each_replicate zero x p = tt
  each_replicate (suc n) x p = (p, each_replicate n x p)

pub each_more : {X : Type 0} (P Q : X → Type 0) (xs : List X) → ((x : X) → P x → Q x) → Each P xs → Each Q xs
each_more P Q [] f h = tt
each_more P Q (x ∷ xs) f h = (f x h.0, each_more P Q xs f h.1)

-- ---- ascending lists have each number once

abbrev pub AreDistinct : List ℕ → Type 0
AreDistinct [] = Unit {0}
AreDistinct (k ∷ ks) = (¬ (Contains ks k)) × AreDistinct ks

ascending_tail : (k : ℕ) (ks : List ℕ) → IsStrictlyIncreasing (k ∷ ks) → IsStrictlyIncreasing ks
ascending_tail k ks rises i l =
    let e : suc i + 1 ≡ suc (i + 1) = omega arith in
    subst (λ x. slice_index ks i < x) (ap (slice_index (k ∷ ks)) e) (rises (suc i) (omega (arith, l)))

pub ascending_distinct : (ks : List ℕ) → IsStrictlyIncreasing ks → AreDistinct ks
ascending_distinct [] rises = tt
ascending_distinct (k ∷ ks) rises = (
  λ h.
      let less = AllPairs-from_increasing (k ∷ ks) rises 0 (suc h.0) k (omega arith) (omega (arith, h.1)) in
      absurd (omega (arith, less, h.2)),
  ascending_distinct ks (ascending_tail k ks rises),
)

-- ---- being in a list

-- what is in an empty list, in a list of one, and in a list with a first element
pub contains_nil : {X : Type 0} (x : X) → Contains [] x → ⊥
contains_nil x c = omega (arith, c.1)

pub contains_here : {X : Type 0} (x : X) (xs : List X) → Contains (x ∷ xs) x
contains_here x xs = (0, search rules, refl)

pub contains_there : {X : Type 0} (y : X) (xs : List X) (x : X) → Contains xs x → Contains (y ∷ xs) x
contains_there y xs x c = (suc c.0, omega (arith, c.1), c.2)

pub contains_one : {X : Type 0} (y x : X) → Contains (y ∷ []) x → y ≡ x
contains_one y x (zero, h, e) = e
contains_one y x (suc k, h, e) = absurd (omega (arith, h))

pub contains_cases : {X : Type 0} (y : X) (ys : List X) (x : X) → Contains (y ∷ ys) x → (y ≡ x) ⊎ Contains ys x
contains_cases y ys x (zero, h, e) = inl e
contains_cases y ys x (suc k, h, e) = inr (k, omega (arith, h), e)

-- a number is in a list or not
pub stands_or_not : (xs : List ℕ) (v : ℕ) → Contains xs v ⊎ (¬ (Contains xs v))
stands_or_not [] v = inr (λ c. contains_nil v c)
stands_or_not (x ∷ xs) v = go (stands_or_not xs v)
  where
    go : Contains xs v ⊎ (¬ (Contains xs v)) → Contains (x ∷ xs) v ⊎ (¬ (Contains (x ∷ xs) v))
    go (inl c) = inl (contains_there x xs v c)
    go (inr n) = split (nat_eq x v) (λ t. inl (subst (λ y. Contains (x ∷ xs) y) (eq_of x v t) (contains_here x xs)))
        (λ f. inr (λ c. neither f (contains_cases x xs v c)))
      where
        refutes : (a b : ℕ) → nat_eq a b ≡ false → a ≡ b → ⊥
        refutes a b f e = grind arith

        neither : nat_eq x v ≡ false → (x ≡ v) ⊎ Contains xs v → ⊥
        neither f (inl e) = refutes x v f e
        neither f (inr c) = n c

-- what is at a position is in the list
pub get_contains : {X : Type 0} (xs : List X) (p : ℕ) (x : X) → slice_get xs p ≡ Some x → Contains xs x
get_contains [] p x e = cc
get_contains (y ∷ ys) zero x e = subst (λ z. Contains (y ∷ ys) z) (same_Some y x e) (contains_here y ys)
get_contains (y ∷ ys) (suc p) x e = contains_there y ys x (get_contains ys p x e)

-- what is in the list is at a position
pub contains_get : {X : Type 0} (xs : List X) (x : X) → Contains xs x → (p : ℕ) × (slice_get xs p ≡ Some x)
contains_get [] x c = absurd (contains_nil x c)
contains_get (y ∷ ys) x c = go (contains_cases y ys x c) (λ d. contains_get ys x d)
  where
    go : (y ≡ x) ⊎ Contains ys x → (Contains ys x → (p : ℕ) × (slice_get ys p ≡ Some x)) → (p : ℕ)
        × (slice_get (y ∷ ys) p ≡ Some x)
    go (inl e) next = (zero, ap Some e)
    go (inr d) next = let z = next d in (suc z.0, z.1)
