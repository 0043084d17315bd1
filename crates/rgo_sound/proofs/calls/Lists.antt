-- The lists of a call, from the rules. The rules define which names a call gives; the machine computes a list from positions. That
-- these are the same names (`gives_are`) is proved once, here.
use Rattle.std.proofs.Common.{◌≡◌, ◌≢◌, ℕ, zero, suc, ◌+◌, ◌≤◌, Bool, true, false, ◌||◌, List, [], ◌∷◌, ◌++◌, length}
use Rattle.std.proofs.Common.{Option, Some, refl, sym, ap, ◌∙◌, subst, nat_eq, if◌then◌else◌, arith, ◌⊎◌, inl, inr, ◌↔◌}
use Rattle.std.proofs.Common.{true≢false, slice_get, Contains}
use Rattle.std.proofs.lemmas.Option.{slice_get_within, same_Some}
use Rattle.std.proofs.lemmas.List.Elements.{Contains-append_left, Contains-append_right, Contains-append_cases}
use Rattle.std.specs.List.{list_any}
use Rattle.rgo_sound.proofs.Tests.{or_there, split, eq_of, or_right}
use Rattle.rgo_sound.proofs.Places.{contains_get, get_contains, contains_here, contains_there, contains_cases}
use Rattle.rgo_sound.proofs.Places.{contains_nil, contains_one, get_some}
use Rattle.rgo_sound.proofs.names.Edges.{is_named}
use Rattle.rgo_sound.proofs.calls.Rules.{any_contains}
use Rattle.rgo_sound.proofs.calls.Passed.{AreFormals, given_free}
use Rattle.rgo_sound.proofs.calls.Enters.{IsParameter}
use Rattle.rgo_sound.proofs.names.Ruled.{distinct_member, parameter_member, parameter_listed}
use Rattle.rgo_code.specs.Code.{Call, Code, CodeFn}
use Rattle.rgo_code.specs.NameRules.{ProtectsUsed}
use Rattle.rgo_code.specs.Names.{LeavesToCallee, IsPassedForResult, callee_regions, callee_result, distinct_names, is_class_named}
use Rattle.rgo_code.specs.Names.{parameter_classes, region_parameters, result_class}
use Rattle.rgo_region_machine.specs.Owed.{code_function, given_names, same_class}
use Rattle.rgo_region_machine.specs.Regions.{Bindings}
use Rattle.rgo_sound.specs.Stakes.{one_when, times_in}
use Rattle.rgo_tac.specs.declared.regions.Class.{Class}
use Rattle.rgo_tac.specs.declared.regions.Class.TheVariants.{Global, Name, NoClass}

-- ---- region parameters are names, each once

self_named : (k : ℕ) → is_class_named k (Name k) ≡ true
self_named k = grind arith

-- a name that was seen is not listed
not_again : (seen cs : List Class) (k : ℕ) → list_any (is_class_named k) seen ≡ true
    → list_any (is_class_named k) (distinct_names seen cs) ≡ false
not_again seen [] k e = refl
not_again seen (NoClass ∷ cs) k e = not_again seen cs k e
not_again seen (Global ∷ cs) k e = not_again seen cs k e
not_again seen (Name j ∷ cs) k e = go (list_any (is_class_named j) seen) refl (not_again seen cs k e)
    (not_again (Name j ∷ seen) cs k (or_there (nat_eq k j) (list_any (is_class_named k) seen) e))
  where
    go : (b : Bool) → list_any (is_class_named j) seen ≡ b → list_any (is_class_named k) (distinct_names seen cs) ≡ false
        → list_any (is_class_named k) (distinct_names (Name j ∷ seen) cs) ≡ false
        → list_any (is_class_named k) (if b then distinct_names seen cs else Name j ∷ distinct_names (Name j ∷ seen) cs)
        ≡ false
    go true q one two = one
    go false q one two = split (nat_eq k j) (λ t. absurd (true≢false
        (sym e ∙ ap (λ x. list_any (is_class_named x) seen) (eq_of k j t) ∙ q)))
        (λ n. ap (λ x. x || list_any (is_class_named k) (distinct_names (Name j ∷ seen) cs)) n ∙ two)

-- the listed classes are names, each once
are_formals : (seen cs : List Class) → AreFormals (distinct_names seen cs)
are_formals seen [] = tt
are_formals seen (NoClass ∷ cs) = are_formals seen cs
are_formals seen (Global ∷ cs) = are_formals seen cs
are_formals seen (Name j ∷ cs) = go (list_any (is_class_named j) seen) (are_formals seen cs) (are_formals (Name j ∷ seen) cs)
  where
    go : (b : Bool) → AreFormals (distinct_names seen cs) → AreFormals (distinct_names (Name j ∷ seen) cs)
        → AreFormals (if b then distinct_names seen cs else Name j ∷ distinct_names (Name j ∷ seen) cs)
    go true one two = one
    go false one two = (not_again (Name j ∷ seen) cs j (ap (λ x. x || list_any (is_class_named j) seen) (self_named j)), two)

-- a name among the classes that was not seen is listed
pub listed : (seen cs : List Class) (k : ℕ) → Contains cs (Name k) → list_any (is_class_named k) seen ≡ false
    → list_any (is_class_named k) (distinct_names seen cs) ≡ true
listed seen [] k c n = absurd (contains_nil (Name k) c)
listed seen (NoClass ∷ cs) k c n = go (contains_cases NoClass cs (Name k) c) (λ d. listed seen cs k d n)
  where
    go : (NoClass ≡ Name k) ⊎ Contains cs (Name k) → (Contains cs (Name k)
        → list_any (is_class_named k) (distinct_names seen cs) ≡ true) → list_any (is_class_named k) (distinct_names seen cs) ≡ true
    go (inl e) next = cc
    go (inr d) next = next d
listed seen (Global ∷ cs) k c n = go (contains_cases Global cs (Name k) c) (λ d. listed seen cs k d n)
  where
    go : (Global ≡ Name k) ⊎ Contains cs (Name k) → (Contains cs (Name k)
        → list_any (is_class_named k) (distinct_names seen cs) ≡ true) → list_any (is_class_named k) (distinct_names seen cs) ≡ true
    go (inl e) next = cc
    go (inr d) next = next d
listed seen (Name j ∷ cs) k c n = go (list_any (is_class_named j) seen) refl (contains_cases (Name j) cs (Name k) c)
    (λ d. listed seen cs k d n) (λ d m. listed (Name j ∷ seen) cs k d m)
  where
    number : Name j ≡ Name k → j ≡ k
    number e = cc

    go : (b : Bool) → list_any (is_class_named j) seen ≡ b → (Name j ≡ Name k) ⊎ Contains cs (Name k)
        → (Contains cs (Name k) → list_any (is_class_named k) (distinct_names seen cs) ≡ true)
        → (Contains cs (Name k) → list_any (is_class_named k) (Name j ∷ seen) ≡ false
        → list_any (is_class_named k) (distinct_names (Name j ∷ seen) cs) ≡ true)
        → list_any (is_class_named k) (if b then distinct_names seen cs else Name j ∷ distinct_names (Name j ∷ seen) cs) ≡ true
    go true q (inl e) one two = absurd (true≢false (sym q ∙ ap (λ x. list_any (is_class_named x) seen) (number e) ∙ n))
    go true q (inr d) one two = one d
    go false q (inl e) one two = ap (λ x. nat_eq k x || list_any (is_class_named k) (distinct_names (Name j ∷ seen) cs))
        (number e) ∙ ap (λ x. x || list_any (is_class_named k) (distinct_names (Name j ∷ seen) cs)) (self_named k)
    go false q (inr d) one two = split (nat_eq k j) (λ t.
        ap (λ x. x || list_any (is_class_named k) (distinct_names (Name j ∷ seen) cs)) t)
        (λ m. or_there (nat_eq k j) _ (two d (ap (λ x. x || list_any (is_class_named k) seen) m ∙ n)))

-- a name in a list has a position
pub any_at : (k : ℕ) (cs : List Class) → list_any (is_class_named k) cs ≡ true → (p : ℕ) × (slice_get cs p ≡ Some (Name k))
any_at k [] e = cc
any_at k (c ∷ cs) e = go (is_class_named k c) refl e (any_at k cs)
  where
    go : (b : Bool) → is_class_named k c ≡ b → (b || list_any (is_class_named k) cs) ≡ true
        → (list_any (is_class_named k) cs ≡ true → (p : ℕ) × (slice_get cs p ≡ Some (Name k))) → (p : ℕ)
        × (slice_get (c ∷ cs) p ≡ Some (Name k))
    go true q e next = (0, ap Some (is_named k c q))
    go false q e next = let x = next e in (suc x.0, x.1)

-- the region parameters of a function are names, each once
pub formals_once : (g : CodeFn) → AreFormals (region_parameters g)
formals_once g = are_formals [] (parameter_classes g.params g.variables ++ result_class g ∷ [])

-- a function's region parameters are the names of its parameters, and of its result
pub formals_are : (g : CodeFn) (k : ℕ) → (list_any (is_class_named k) (region_parameters g) ≡ true) ↔
    (IsParameter g k ⊎ (result_class g ≡ Name k))
formals_are g k = (to, from)
  where
    to : list_any (is_class_named k) (region_parameters g) ≡ true → IsParameter g k ⊎ (result_class g ≡ Name k)
    to e = by (Contains-append_cases (parameter_classes g.params g.variables) (result_class g ∷ []) (Name k) m.0)
      where
        at : (p : ℕ) × (slice_get (region_parameters g) p ≡ Some (Name k))
        at = any_at k (region_parameters g) e

        m : Contains (parameter_classes g.params g.variables ++ result_class g ∷ []) (Name k)
            × ((j : ℕ) × (Name k ≡ Name j))
        m = distinct_member [] (parameter_classes g.params g.variables ++ result_class g ∷ []) at.0 (Name k) at.1

        by : Contains (parameter_classes g.params g.variables) (Name k) ⊎ Contains (result_class g ∷ []) (Name k)
            → IsParameter g k ⊎ (result_class g ≡ Name k)
        by (inl d) = inl (parameter_member g.params g.variables (Name k) d)
        by (inr d) = inr (contains_one (result_class g) (Name k) d)

    from : IsParameter g k ⊎ (result_class g ≡ Name k) → list_any (is_class_named k) (region_parameters g) ≡ true
    from (inl (i, h, e)) = listed [] (parameter_classes g.params g.variables ++ result_class g ∷ []) k
        (Contains-append_left (parameter_classes g.params g.variables) (result_class g ∷ []) (Name k)
        (parameter_listed g.params g.variables i k h e)) refl
    from (inr e) = listed [] (parameter_classes g.params g.variables ++ result_class g ∷ []) k
        (Contains-append_right (parameter_classes g.params g.variables) (result_class g ∷ []) (Name k)
        (subst (λ x. Contains (result_class g ∷ []) x) e (contains_here (result_class g) []))) refl

-- ---- what a call gives

module _ (lent : Class) (protects : List ℕ) where
  -- what is passed at a position, without protection and not for the callee's result, is given
  given_at : (formals regions : List Class) (p m k : ℕ) → slice_get formals p ≡ Some (Name m) → slice_get regions p
      ≡ Some (Name k) → list_any (nat_eq k) protects ≡ false → is_class_named m lent ≡ false
      → 1 ≤ times_in k (given_names lent formals regions protects)
  given_at [] regions p m k f r n l = cc
  given_at (c ∷ formals) [] p m k f r n l = cc
  given_at (c ∷ formals) (Name j ∷ regions) zero m k f r n l =
      let fc : c ≡ Name m = cc in
      let rj : j ≡ k = cc in
      let off : (list_any (nat_eq j) protects || same_class c lent) ≡ false =
      ap (λ x. list_any (nat_eq x) protects || same_class c lent) rj ∙ ap (λ x. x || same_class c lent) n
      ∙ ap (λ x. same_class x lent) fc ∙ l in
      let is : times_in k (given_names lent (c ∷ formals) (Name j ∷ regions) protects)
      ≡ one_when (nat_eq k j) + times_in k (given_names lent formals regions protects) =
      ap (λ x. times_in k (if x then given_names lent formals regions protects else j ∷ given_names lent formals
      regions protects)) off in
      let one : one_when (nat_eq k j) ≡ 1 = ap (λ x. one_when (nat_eq k x)) rj ∙ ap one_when (self_named k) in
      omega (arith, is, one)
  given_at (c ∷ formals) (Global ∷ regions) zero m k f r n l = cc
  given_at (c ∷ formals) (NoClass ∷ regions) zero m k f r n l = cc
  given_at (c ∷ formals) (Name j ∷ regions) (suc p) m k f r n l =
      go (list_any (nat_eq j) protects || same_class c lent) (given_at formals regions p m k f r n l)
    where
      go : (b : Bool) → 1 ≤ times_in k (given_names lent formals regions protects)
          → 1 ≤ times_in k (if b then given_names lent formals regions protects else j ∷ given_names lent formals
          regions protects)
      go true h = h
      go false h = omega (arith, h)
  given_at (c ∷ formals) (Global ∷ regions) (suc p) m k f r n l = given_at formals regions p m k f r n l
  given_at (c ∷ formals) (NoClass ∷ regions) (suc p) m k f r n l = given_at formals regions p m k f r n l

  -- what is given is passed at a position, not for the callee's result
  given_from : (formals regions : List Class) (k : ℕ) → 1 ≤ times_in k (given_names lent formals regions protects)
      → (p : ℕ) × (c : Class) × (slice_get formals p ≡ Some c) × (slice_get regions p ≡ Some (Name k))
      × (same_class c lent ≡ false)
  given_from [] regions k h = absurd (omega (arith, h))
  given_from (Name i ∷ formals) [] k h = absurd (omega (arith, h))
  given_from (Global ∷ formals) [] k h = absurd (omega (arith, h))
  given_from (NoClass ∷ formals) [] k h = absurd (omega (arith, h))
  given_from (c ∷ formals) (Name j ∷ regions) k h = go (list_any (nat_eq j) protects || same_class c lent) refl h
      (given_from formals regions k)
    where
      here : (x : Bool) → nat_eq k j ≡ x → same_class c lent ≡ false
          → 1 ≤ one_when x + times_in k (given_names lent formals regions protects)
          → (1 ≤ times_in k (given_names lent formals regions protects) → (p : ℕ) × (d : Class)
          × (slice_get formals p ≡ Some d) × (slice_get regions p ≡ Some (Name k)) × (same_class d lent ≡ false))
          → (p : ℕ) × (d : Class) × (slice_get (c ∷ formals) p ≡ Some d)
          × (slice_get (Name j ∷ regions) p ≡ Some (Name k)) × (same_class d lent ≡ false)
      here true t n h next = (0, c, refl, ap (λ x. Some (Name x)) (sym (eq_of k j t)), n)
      here false t n h next = let x = next (omega (arith, h)) in (suc x.0, x.1, x.2, x.3, x.4)

      go : (b : Bool) → (list_any (nat_eq j) protects || same_class c lent) ≡ b
          → 1 ≤ times_in k (if b then given_names lent formals regions protects else j ∷ given_names lent formals
          regions protects) → (1 ≤ times_in k (given_names lent formals regions protects) → (p : ℕ) × (d : Class)
          × (slice_get formals p ≡ Some d) × (slice_get regions p ≡ Some (Name k)) × (same_class d lent ≡ false))
          → (p : ℕ) × (d : Class) × (slice_get (c ∷ formals) p ≡ Some d)
          × (slice_get (Name j ∷ regions) p ≡ Some (Name k)) × (same_class d lent ≡ false)
      go true e h next = let x = next h in (suc x.0, x.1, x.2, x.3, x.4)
      go false e h next = here (nat_eq k j) refl (or_right (list_any (nat_eq j) protects) (same_class c lent) e) h next
  given_from (c ∷ formals) (Global ∷ regions) k h = let x = given_from formals regions k h in
      (suc x.0, x.1, x.2, x.3, x.4)
  given_from (c ∷ formals) (NoClass ∷ regions) k h = let x = given_from formals regions k h in
      (suc x.0, x.1, x.2, x.3, x.4)

-- the names that a call gives by the rules are those that the machine takes from the caller
pub gives_are : (code : Code) (fn g : CodeFn) (i : ℕ) (to : Option ℕ) (n : ℕ) (from : List ℕ) (passes : List Class)
    (protects removes : List ℕ) (names : Bindings) → code_function code n ≡ Some g → length passes
    ≡ length (region_parameters g) → ProtectsUsed fn i (Call to n from passes protects removes) → (k : ℕ)
    → LeavesToCallee code (Call to n from passes protects removes) k ↔
    (1 ≤ times_in k (given_names (result_class g) (region_parameters g) passes protects))
gives_are code fn g i to n from passes protects removes names found long rule k = (to_given, from_given)
  where
    to_given : LeavesToCallee code (Call to n from passes protects removes) k
        → 1 ≤ times_in k (given_names (result_class g) (region_parameters g) passes protects)
    to_given x = at (contains_get passes (Name k) x.0)
      where
        free : list_any (nat_eq k) protects ≡ false
        free = split (list_any (nat_eq k) protects) (λ t. absurd (x.1 (stands protects t))) (λ n. n)
          where
            stands : (ks : List ℕ) → list_any (nat_eq k) ks ≡ true → Contains ks k
            stands [] e = cc
            stands (j ∷ ks) e = go (nat_eq k j) refl e (stands ks)
              where
                go : (b : Bool) → nat_eq k j ≡ b → (b || list_any (nat_eq k) ks) ≡ true
                    → (list_any (nat_eq k) ks ≡ true → Contains ks k) → Contains (j ∷ ks) k
                go true t e next = subst (λ y. Contains (j ∷ ks) y) (sym (eq_of k j t)) (contains_here j ks)
                go false t e next = contains_there j ks k (next e)

        at : (p : ℕ) × (slice_get passes p ≡ Some (Name k))
            → 1 ≤ times_in k (given_names (result_class g) (region_parameters g) passes protects)
        at (p, e) = formal (get_some (region_parameters g) p
            (let y = slice_get_within passes p (Name k) e in omega (arith, y, long)))
          where
            formal : (f : Class) × (slice_get (region_parameters g) p ≡ Some f)
                → 1 ≤ times_in k (given_names (result_class g) (region_parameters g) passes protects)
            formal (f, q) =
                let m = (distinct_member [] (parameter_classes g.params g.variables ++ result_class g ∷ []) p f q).1 in
                given_at (result_class g) protects (region_parameters g) passes p m.0 k (q ∙ ap Some m.1) e free
                (split (is_class_named m.0 (result_class g)) (λ t. absurd
                (x.2 record {
                  at = p;
                  parameter = subst (λ (o : Option CodeFn). slice_get (callee_regions o) p
                      ≡ Some (callee_result o)) (sym found) (q ∙ ap Some (m.1 ∙ sym (is_named m.0 (result_class g) t)));
                  passed = e;
                })) (λ n. n))

    from_given : 1 ≤ times_in k (given_names (result_class g) (region_parameters g) passes protects)
        → LeavesToCallee code (Call to n from passes protects removes) k
    from_given h = (get_contains passes a.0 (Name k) a.3, not_protected, not_result)
      where
        a : (p : ℕ) × (c : Class) × (slice_get (region_parameters g) p ≡ Some c) × (slice_get passes p ≡ Some (Name k))
            × (same_class c (result_class g) ≡ false)
        a = given_from (result_class g) protects (region_parameters g) passes k h

        free : list_any (nat_eq k) protects ≡ false
        free = given_free names (result_class g) protects (region_parameters g) passes k h

        not_protected : ¬ (Contains protects k)
        not_protected c = true≢false (sym (any_contains protects k c) ∙ free)

        m : (j : ℕ) × (a.1 ≡ Name j)
        m = (distinct_member [] (parameter_classes g.params g.variables ++ result_class g ∷ []) a.0 a.1 a.2).1

        not_result : ¬ (IsPassedForResult (code_function code n) passes k)
        not_result x = not_protected ((rule k).1 (
          get_contains passes a.0 (Name k) a.3,
          inr
              (inr (record { one = a.0; other = x.at; differ = differs; first = a.3; second = x.passed })),
        ))
          where
            f' : slice_get (region_parameters g) x.at ≡ Some (result_class g)
            f' = subst (λ (o : Option CodeFn). slice_get (callee_regions o) x.at ≡ Some (callee_result o)) found
                x.parameter

            differs : a.0 ≢ x.at
            differs q =
                let c : a.1 ≡ result_class g = same_Some a.1 (result_class g)
                (sym a.2 ∙ ap (slice_get (region_parameters g)) q ∙ f') in
                let t : same_class a.1 (result_class g) ≡ true =
                ap (same_class a.1) (sym c) ∙ ap (λ x. same_class x x) m.1 ∙ self_named m.0 in
                true≢false (sym t ∙ a.4)
