-- Classes that are passed, one after the other: the names seen among them, and those passed twice.
use Rattle.std.proofs.Common.{◌≡◌, ◌⊎◌, ⊎_elim, inl, inr, ◌<◌, ◌≤◌, ◌+◌, ◌||◌, ℕ, zero, suc, Bool, true, false, not, nat_eq, List, [], ◌∷◌, ◌++◌, Option, Some, None, length, take, get_or, slice_get, refl, sym, ap, subst, ◌∙◌, arith}
use Rattle.std.specs.Prelude.{◌↔◌}
use Rattle.std.specs.BTreeSet.{BTreeSet, contains}
use Rattle.std.specs.Ordering.{nat_cmp}
use Rattle.std.specs.List.{Contains, list_any}
use Rattle.std.proofs.lemmas.Bool.{false≢true}
use Rattle.std.proofs.lemmas.Bool.Decides.{nat_tests}
use Rattle.std.proofs.lemmas.List.{take_more}
use Rattle.std.proofs.lemmas.List.Folds.{Any-from_list_any, list_any-from_Any, list_any-append}
use Rattle.std.proofs.lemmas.Option.{same_Some, none-some, slice_get-get_or}
use Rattle.rgo_graphs.proofs.Lists.{take_cases, take_more_left, take_more_here}
use Rattle.rgo_tac.specs.declared.regions.Class.{Class}
use Rattle.rgo_tac.specs.declared.regions.Class.TheVariants.{NoClass, Global, Name}
use Rattle.rgo_code.specs.Code.{CodeFn}
use Rattle.rgo_code.specs.Names.{is_class_named, IsPassedTwice}
use Rattle.rgo_region_sets.specs.Asked.{Protects, IsNeeded, AddsPassed}
use Rattle.rgo_region_sets.specs.Seen.{IsSeen}
use Rattle.rgo_region_sets.specs.Used.{name_of}
use Rattle.rgo_region_sets.proofs.Naming.{name_is}
use Rattle.rgo_region_sets.proofs.Merges.{found}
use Rattle.rgo_region_sets.proofs.Apart.{member_at}

-- ---- tests on names

pub is_name_same : (k : ℕ) (c : Class) → c ≡ Name k → is_class_named k c ≡ true
is_name_same k c e = ap (is_class_named k) e ∙ same k where
  same : (k : ℕ) → nat_eq k k ≡ true
  same k = grind (arith, nat_tests)

pub is_name_is : (k : ℕ) (c : Class) → is_class_named k c ≡ true → c ≡ Name k
is_name_is k NoClass e = absurd (false≢true e)
is_name_is k Global e = absurd (false≢true e)
is_name_is k (Name j) e = ap Name (same e) where
  same : nat_eq k j ≡ true → j ≡ k
  same e = grind (arith, nat_tests)

pub seen_is : (classes : List Class) (k : ℕ) → list_any (is_class_named k) classes ≡ true → Contains classes (Name k)
seen_is classes k h =
    let any = Any-from_list_any (is_class_named k) classes h in
    subst (Contains classes) (is_name_is k any.1 any.4) (any.0, any.2, any.3)

pub is_seen : (classes : List Class) (k : ℕ) → Contains classes (Name k) → list_any (is_class_named k) classes ≡ true
is_seen classes k h = list_any-from_Any (is_class_named k) classes (h.0, Name k, h.1, h.2, is_name_same k (Name k) refl)

-- ---- a class more

or_same : (b : Bool) → b || false ≡ b
or_same true = refl
or_same false = refl

-- the test on a class is that on its name
by_name : (c : Class) (j k : ℕ) → name_of c ≡ Some j → is_class_named k c ≡ nat_eq k j
by_name c j k e = ap (is_class_named k) (name_is c j e)

by_none : (c : Class) (k : ℕ) → name_of c ≡ None → is_class_named k c ≡ false
by_none NoClass k e = refl
by_none Global k e = refl
by_none (Name j) k e = absurd (none-some j (sym e))

pub seen_more : (seen seen' : BTreeSet ℕ) (classes : List Class) (c : Class) (j : ℕ) → name_of c ≡ Some j
    → ((k : ℕ) → contains nat_cmp seen' k ≡ (contains nat_cmp seen k || nat_eq k j)) → IsSeen seen classes
    → IsSeen seen' (classes ++ c ∷ [])
seen_more seen seen' classes c j e adds before k =
    adds k ∙ ap (λ b. b || nat_eq k j) (before k)
    ∙ ap (λ b. list_any (is_class_named k) classes || b)
    (sym (or_same (nat_eq k j)) ∙ ap (λ b. b || false) (sym (by_name c j k e)))
    ∙ sym (list_any-append (is_class_named k) classes (c ∷ []))

pub seen_same : (seen : BTreeSet ℕ) (classes : List Class) (c : Class) → name_of c ≡ None → IsSeen seen classes
    → IsSeen seen (classes ++ c ∷ [])
seen_same seen classes c e before k =
    before k ∙ sym (or_same (list_any (is_class_named k) classes))
    ∙ ap (λ b. list_any (is_class_named k) classes || (b || false)) (sym (by_none c k e))
    ∙ sym (list_any-append (is_class_named k) classes (c ∷ []))

-- ---- passed twice

take_nil : {A : Type 0} (n : ℕ) → ◌≡◌ {A = List A} (take n []) []
take_nil zero = refl
take_nil (suc n) = refl

pub get_taken : {A : Type 0} (xs : List A) (n i : ℕ) (x : A) → slice_get (take n xs) i ≡ Some x
    → (i < n) × (slice_get xs i ≡ Some x)
get_taken [] n i x e = absurd (none-some x (ap (λ l. slice_get l i) (sym (take_nil n)) ∙ e))
get_taken (y ∷ xs) zero i x e = absurd (none-some x e)
get_taken (y ∷ xs) (suc n) zero x e = (omega arith, e)
get_taken (y ∷ xs) (suc n) (suc i) x e = let h = get_taken xs n i x e in (omega (arith, h.0), h.1)

pub taken_get : {A : Type 0} (xs : List A) (n i : ℕ) (x : A) → i < n → slice_get xs i ≡ Some x
    → slice_get (take n xs) i ≡ Some x
taken_get [] n i x l e = absurd (none-some x e)
taken_get (y ∷ xs) zero i x l e = absurd (omega (arith, l))
taken_get (y ∷ xs) (suc n) zero x l e = e
taken_get (y ∷ xs) (suc n) (suc i) x l e = taken_get xs n i x (omega (arith, l)) e

less_or : (a b : ℕ) → (a < b) ⊎ (b ≤ a)
less_or a b = grind arith

same_or : (a b : ℕ) → (a ≡ b) ⊎ (a ≡ b → ⊥)
same_or a b = grind arith

module _ (passes : List Class) (n : ℕ) (d : Class) (within : n < length passes) where
  here : slice_get passes n ≡ Some (get_or passes n d)
  here = slice_get-get_or passes n d within

  twice_later : (k : ℕ) → IsPassedTwice (take n passes) k → IsPassedTwice (take (n + 1) passes) k
  twice_later k h =
      let a = get_taken passes n h.one (Name k) h.first in
      let b = get_taken passes n h.other (Name k) h.second in
      record {
        one = h.one;
        other = h.other;
        differ = h.differ;
        first = taken_get passes (n + 1) h.one (Name k) (omega (arith, a.0)) a.1;
        second = taken_get passes (n + 1) h.other (Name k) (omega (arith, b.0)) b.1;
      }

  twice_now : (k : ℕ) → get_or passes n d ≡ Name k → Contains (take n passes) (Name k)
      → IsPassedTwice (take (n + 1) passes) k
  twice_now k e h =
      let a = get_taken passes n h.0 (Name k) (member_at (take n passes) (Name k) h) in
      record {
        one = h.0;
        other = n;
        differ = λ z. omega (arith, a.0, z);
        first = taken_get passes (n + 1) h.0 (Name k) (omega (arith, a.0)) a.1;
        second = taken_get passes (n + 1) n (Name k) (omega arith) (here ∙ ap Some e);
      }

  twice_cases : (k : ℕ) → IsPassedTwice (take (n + 1) passes) k
      → IsPassedTwice (take n passes) k ⊎ ((get_or passes n d ≡ Name k) × Contains (take n passes) (Name k))
  twice_cases k h =
      let a = get_taken passes (n + 1) h.one (Name k) h.first in
      let b = get_taken passes (n + 1) h.other (Name k) h.second in
      ⊎_elim
      (λ l. ⊎_elim
      (λ m. inl (record {
        one = h.one;
        other = h.other;
        differ = h.differ;
        first = taken_get passes n h.one (Name k) l a.1;
        second = taken_get passes n h.other (Name k) m b.1;
      }))
      (λ m. inr (
        at_end h.other (omega (arith, b.0, m)) b.1,
        found (take n passes) h.one (Name k) (taken_get passes n h.one (Name k) l a.1),
      ))
      (less_or h.other n))
      (λ l. ⊎_elim
      (λ m. inr (
        at_end h.one (omega (arith, a.0, l)) a.1,
        found (take n passes) h.other (Name k) (taken_get passes n h.other (Name k) m b.1),
      ))
      (λ m. absurd (h.differ (omega (arith, a.0, l, b.0, m))))
      (less_or h.other n))
      (less_or h.one n)
    where
      at_end : (i : ℕ) → i ≡ n → slice_get passes i ≡ Some (Name k) → get_or passes n d ≡ Name k
      at_end i e is = same_Some (get_or passes n d) (Name k) (sym here ∙ ap (slice_get passes) (sym e) ∙ is)

  -- ---- one step of the protections

  module _ (f : CodeFn) (at : ℕ) (old new : List ℕ) (seen seen' : BTreeSet ℕ)
      (before : (k : ℕ) → Contains old k ↔ Protects f at (take n passes) k) (sees : IsSeen seen (take n passes))
      (step : AddsPassed f at (get_or passes n d) old new seen seen') where
    protects_later : (k : ℕ) → Protects f at (take n passes) k → Protects f at (take (n + 1) passes) k
    protects_later k h = (
      take_more_left passes n d (Name k) within h.0,
      ⊎_elim
          (λ l. inl l)
          (λ m. inr (⊎_elim (λ r. inl r) (λ t. inr (twice_later k t)) m))
          h.1,
    )

    -- a name that was seen before
    protects_before : (k : ℕ) → (get_or passes n d ≡ Name k → ⊥) → Protects f at (take (n + 1) passes) k
        → Protects f at (take n passes) k
    protects_before k other h = (
      ⊎_elim (λ o. o) (λ e. absurd (other e)) (take_cases passes n d (Name k) within h.0),
      ⊎_elim
          (λ l. inl l)
          (λ m. inr (⊎_elim
          (λ r. inl r)
          (λ t. inr (⊎_elim (λ o. o) (λ e. absurd (other e.0)) (twice_cases k t)))
          m))
          h.1,
    )

    none_more : name_of (get_or passes n d) ≡ None
        → ((k : ℕ) → Contains new k ↔ Protects f at (take (n + 1) passes) k) × IsSeen seen' (take (n + 1) passes)
    none_more none =
        let same = step.other none in
        let no_name : (k : ℕ) → get_or passes n d ≡ Name k → ⊥ = λ k e. none-some k (sym none ∙ ap name_of e) in (
          λ k. (
            λ h. protects_later k ((before k).0 (subst (λ l. Contains l k) same.0 h)),
            λ h. subst (λ l. Contains l k) (sym same.0) ((before k).1 (protects_before k (no_name k) h)),
          ),
          subst (λ s. IsSeen s (take (n + 1) passes)) (sym same.1)
              (subst (IsSeen seen) (sym (take_more passes n d within))
              (seen_same seen (take n passes) (get_or passes n d) none sees)),
        )

    -- a name that is passed, k
    module _ (k : ℕ) (e : name_of (get_or passes n d) ≡ Some k) where
      is_k : get_or passes n d ≡ Name k
      is_k = name_is (get_or passes n d) k e

      not_seen : not (contains nat_cmp seen k) ≡ false → Contains (take n passes) (Name k)
      not_seen h = seen_is (take n passes) k (sym (sees k) ∙ flip (contains nat_cmp seen k) h) where
        flip : (b : Bool) → not b ≡ false → b ≡ true
        flip true h = refl
        flip false h = absurd (false≢true (sym h))

      was_seen : Contains (take n passes) (Name k) → not (contains nat_cmp seen k) ≡ false
      was_seen h = ap not (sees k ∙ is_seen (take n passes) k h)

      needed_protects : IsNeeded f at (not (contains nat_cmp seen k)) k → Protects f at (take (n + 1) passes) k
      needed_protects h = (
        subst (Contains (take (n + 1) passes)) is_k (take_more_here passes n d within),
        ⊎_elim
            (λ l. inl l)
            (λ m. inr (⊎_elim (λ r. inl r) (λ s. inr (twice_now k is_k (not_seen s))) m))
            h,
      )

      protects_needed : Protects f at (take (n + 1) passes) k
          → Contains old k ⊎ IsNeeded f at (not (contains nat_cmp seen k)) k
      protects_needed h = ⊎_elim
          (λ l. inr (inl l))
          (λ m. ⊎_elim
          (λ r. inr (inr (inl r)))
          (λ t. ⊎_elim
          (λ o. inl ((before k).1 (at_first o, inr (inr o))))
          (λ s. inr (inr (inr (was_seen s.1))))
          (twice_cases k t))
          m)
          h.1
        where
          at_first : IsPassedTwice (take n passes) k → Contains (take n passes) (Name k)
          at_first o = found (take n passes) o.one (Name k) o.first

      other_name : (j : ℕ) → (j ≡ k → ⊥) → get_or passes n d ≡ Name j → ⊥
      other_name j differ is = differ (same_Some j k (sym (ap name_of is) ∙ e))

      one_more : ((j : ℕ) → Contains new j ↔ Protects f at (take (n + 1) passes) j) × IsSeen seen' (take (n + 1) passes)
      one_more = (
        λ j. (
          λ h. ⊎_elim
              (λ o. protects_later j ((before j).0 o))
              (λ s. subst (Protects f at (take (n + 1) passes)) (sym s.0) (needed_protects s.1))
              (((step.name k e).names j).0 h),
          λ h. ((step.name k e).names j).1 (⊎_elim
              (λ same. ⊎_elim
              (λ o. inl (subst (Contains old) (sym same) o))
              (λ s. inr (same, s))
              (protects_needed (subst (Protects f at (take (n + 1) passes)) same h)))
              (λ differ. inl ((before j).1 (protects_before j (other_name j differ) h)))
              (same_or j k)),
        ),
        subst (IsSeen seen') (sym (take_more passes n d within))
            (seen_more seen seen' (take n passes) (get_or passes n d) k e (step.name k e).sees sees),
      )

    pub protects_more : ((k : ℕ) → Contains new k ↔ Protects f at (take (n + 1) passes) k)
        × IsSeen seen' (take (n + 1) passes)
    protects_more = by (name_of (get_or passes n d)) refl where
      by : (o : Option ℕ) → name_of (get_or passes n d) ≡ o
          → ((k : ℕ) → Contains new k ↔ Protects f at (take (n + 1) passes) k) × IsSeen seen' (take (n + 1) passes)
      by None e = none_more e
      by (Some k) e = one_more k e
