-- Facts of which it is known whether they hold.
use Rattle.std.proofs.Common.{◌≡◌, ◌↔◌, ◌⊎◌, inl, inr, ℕ, zero, suc, ◌<◌, Bool, true, false, List, [], ◌∷◌, Option, Some, None, slice_get, bytes_eq, nat_eq, nat_lt, refl, sym, subst, Contains}
use Rattle.std.proofs.lemmas.Bool.Decides.{not_from_Decides}
use Rattle.std.proofs.lemmas.Option.{same_Some, none-some}
use Rattle.std.proofs.lemmas.Slice.Eq.{bytes_eq-Decides}
use Rattle.std.specs.Bool.{Decides}
use Rattle.rgo_tac.specs.declared.regions.Class.{Class}
use Rattle.rgo_checker.specs.ClassTests.{equal_classes}
use Rattle.rgo_checker.proofs.decides.ClassLaws.{same_class_decided}
use Rattle.rgo_checker.proofs.Deciding.{decides_same, decides_less}
use Rattle.rgo_checker.proofs.Listing.{contains_none, contains_here, contains_there, contains_cases}

abbrev pub Decided : Type 0 → Type 0
Decided P = P ⊎ (P → ⊥)

pub by_test : {P : Type 0} (b : Bool) → Decides b P → Decided P
by_test true d = inl (d.0 refl)
by_test false d = inr (not_from_Decides false d refl)

pub like : {P Q : Type 0} → (P → Q) → (Q → P) → Decided P → Decided Q
like f g (inl p) = inl (f p)
like f g (inr n) = inr (λ q. n (g q))

pub both : {P Q : Type 0} → Decided P → Decided Q → Decided (P × Q)
both (inl p) (inl q) = inl (p, q)
both (inl p) (inr n) = inr (λ h. n h.1)
both (inr n) d = inr (λ h. n h.0)

pub one_of : {P Q : Type 0} → Decided P → Decided Q → Decided (P ⊎ Q)
one_of (inl p) d = inl (inl p)
one_of (inr n) (inl q) = inl (inr q)
one_of {P} {Q} (inr n) (inr m) = inr none
  where
    none : P ⊎ Q → ⊥
    none (inl p) = n p
    none (inr q) = m q

pub negated : {P : Type 0} → Decided P → Decided (P → ⊥)
negated (inl p) = inr (λ n. n p)
negated (inr n) = inl n

pub premised : {P Q : Type 0} → Decided P → Decided Q → Decided (P → Q)
premised d (inl q) = inl (λ p. q)
premised (inl p) (inr n) = inr (λ h. n (h p))
premised (inr m) (inr n) = inl (λ p. absurd (m p))

-- ---- values

pub same_number : (a b : ℕ) → Decided (a ≡ b)
same_number a b = by_test (nat_eq a b) (decides_same a b)

pub is_less : (a b : ℕ) → Decided (a < b)
is_less a b = by_test (nat_lt a b) (decides_less a b)

pub same_bytes : (a b : List ℕ) → Decided (a ≡ b)
same_bytes a b = by_test (bytes_eq a b) (bytes_eq-Decides a b)

pub one_class : (a b : Class) → Decided (a ≡ b)
one_class a b = by_test (equal_classes a b) (same_class_decided a b)

pub is_some_of : {A : Type 0} → ((a b : A) → Decided (a ≡ b)) → (o : Option A) (a : A) → Decided (o ≡ Some a)
is_some_of same None a = inr (λ e. none-some a e)
is_some_of same (Some b) a = like (λ e. subst (λ x. Some b ≡ Some x) e refl) (λ e. same_Some b a e) (same b a)

pub is_none : {A : Type 0} (o : Option A) → Decided (◌≡◌ {A = Option A} o None)
is_none None = inl refl
is_none (Some a) = inr (λ e. none-some a (sym e))

-- ---- lists

module _ {A : Type 0} (P : A → Type 0) (decided : (a : A) → Decided (P a)) where
  pub each_in : (xs : List A) → Decided ((a : A) → Contains xs a → P a)
  each_in [] = inl (λ a c. absurd (contains_none a c))
  each_in (x ∷ xs) = go (decided x) (each_in xs)
    where
      at : P x → ((a : A) → Contains xs a → P a) → (a : A) → (x ≡ a) ⊎ Contains xs a → P a
      at p all a (inl e) = subst P e p
      at p all a (inr c) = all a c

      go : Decided (P x) → Decided ((a : A) → Contains xs a → P a) → Decided ((a : A) → Contains (x ∷ xs) a → P a)
      go (inl p) (inl all) = inl (λ a c. at p all a (contains_cases x xs a c))
      go (inl p) (inr n) = inr (λ h. n (λ a c. h a (contains_there x xs a c)))
      go (inr n) d = inr (λ h. n (h x (contains_here x xs)))

  pub some_in : (xs : List A) → Decided ((a : A) × Contains xs a × P a)
  some_in [] = inr (λ h. contains_none h.0 h.1)
  some_in (x ∷ xs) = go (decided x) (some_in xs)
    where
      none : (P x → ⊥) → (((a : A) × Contains xs a × P a) → ⊥) → (a : A) → (x ≡ a) ⊎ Contains xs a → P a → ⊥
      none n m a (inl e) p = n (subst P (sym e) p)
      none n m a (inr c) p = m (a, c, p)

      go : Decided (P x) → Decided ((a : A) × Contains xs a × P a) → Decided ((a : A) × Contains (x ∷ xs) a × P a)
      go (inl p) d = inl (x, contains_here x xs, p)
      go (inr n) (inl s) = inl (s.0, contains_there x xs s.0 s.1, s.2)
      go (inr n) (inr m) = inr (λ h. none n m h.0 (contains_cases x xs h.0 h.1) h.2)

pub each_at : {A : Type 0} (P : ℕ → A → Type 0) → ((i : ℕ) (a : A) → Decided (P i a)) → (xs : List A)
    → Decided ((i : ℕ) (a : A) → slice_get xs i ≡ Some a → P i a)
each_at P decided [] = inl (λ i a e. absurd (none-some a e))
each_at {A} P decided (x ∷ xs) = go (decided 0 x) (each_at (λ i a. P (suc i) a) (λ i a. decided (suc i) a) xs)
  where
    at : P 0 x → ((i : ℕ) (a : A) → slice_get xs i ≡ Some a → P (suc i) a) → (i : ℕ) (a : A)
        → slice_get (x ∷ xs) i ≡ Some a → P i a
    at p all zero a e = subst (P 0) (same_Some x a e) p
    at p all (suc i) a e = all i a e

    go : Decided (P 0 x) → Decided ((i : ℕ) (a : A) → slice_get xs i ≡ Some a → P (suc i) a)
        → Decided ((i : ℕ) (a : A) → slice_get (x ∷ xs) i ≡ Some a → P i a)
    go (inl p) (inl all) = inl (at p all)
    go (inl p) (inr n) = inr (λ h. n (λ i a e. h (suc i) a e))
    go (inr n) d = inr (λ h. n (h 0 x refl))

-- an item of which the fact holds, by its number
abbrev pub SomeAt : {A : Type 0} → (ℕ → A → Type 0) → List A → Type 0
SomeAt {A} P xs = (i : ℕ) × (a : A) × (slice_get xs i ≡ Some a) × P i a

pub some_at : {A : Type 0} (P : ℕ → A → Type 0) → ((i : ℕ) (a : A) → Decided (P i a)) → (xs : List A)
    → Decided (SomeAt P xs)
some_at P decided [] = inr (λ h. none-some h.1 h.2)
some_at {A} P decided (x ∷ xs) = go (decided 0 x) (some_at (λ i a. P (suc i) a) (λ i a. decided (suc i) a) xs)
  where
    none : (P 0 x → ⊥) → (SomeAt (λ i a. P (suc i) a) xs → ⊥) → (i : ℕ) (a : A) → slice_get (x ∷ xs) i ≡ Some a → P i a → ⊥
    none n m zero a e p = n (subst (P 0) (sym (same_Some x a e)) p)
    none n m (suc i) a e p = m (i, a, e, p)

    go : Decided (P 0 x) → Decided (SomeAt (λ i a. P (suc i) a) xs) → Decided (SomeAt P (x ∷ xs))
    go (inl p) d = inl (0, x, refl, p)
    go (inr n) (inl s) = inl (suc s.0, s.1, s.2, s.3)
    go (inr n) (inr m) = inr (λ h. none n m h.0 h.1 h.2 h.3)

pub contains_or_not : {A : Type 0} → ((a b : A) → Decided (a ≡ b)) → (xs : List A) (a : A) → Decided (Contains xs a)
contains_or_not {A} same xs a =
    like (λ (h : (b : A) × Contains xs b × (b ≡ a)). subst (Contains xs) h.2 h.1) (λ c. (a, c, refl))
    (some_in (λ b. b ≡ a) (λ b. same b a) xs)

-- a list has exactly the numbers of which the fact holds; it holds only of numbers among these
pub same_set : (xs among : List ℕ) (Has : ℕ → Type 0) → ((k : ℕ) → Decided (Has k)) → ((k : ℕ) → Has k → Contains among k)
    → Decided ((k : ℕ) → Contains xs k ↔ Has k)
same_set xs among Has decided within =
    like (λ p k. (p.0 k, λ h. p.1 k (within k h) h)) (λ h. (λ k c. (h k).0 c, λ k c g. (h k).1 g))
    (both (each_in Has decided xs)
    (each_in (λ k. Has k → Contains xs k) (λ k. premised (decided k) (contains_or_not same_number xs k)) among))
