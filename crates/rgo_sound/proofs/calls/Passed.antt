-- A call passes its regions on: what the callee receives, and what the caller keeps.
-- The count of holding names must come out the same. For a region that nobody protects, each name that the caller gives becomes one
-- holding name of the callee (`received`), so the sum over both frames stays (`conserved`). For a region that this call is the first to
-- protect, the caller gives no name, and the callee's names are above the protection and not counted (`guarded`). The difficulty is
-- that names are passed by position and counted by region.
use Rattle.std.proofs.Common.{◌≡◌, ◌≢◌, ℕ, zero, suc, ◌+◌, ◌≤◌, Bool, true, false, not, ◌&&◌, ◌||◌, List, [], ◌∷◌}
use Rattle.std.proofs.Common.{Option, Some, None, refl, sym, ap, ◌∙◌, subst, nat_eq, if◌then◌else◌, arith, ◌⊎◌, inl}
use Rattle.std.proofs.Common.{inr, true≢false}
use Rattle.std.specs.List.{list_any}
use Rattle.rgo_sound.proofs.Tests.{none_if, ne_of, split, eq_of, or_right, nat_eq_refl, nat_ne_sym}
use Rattle.rgo_sound.proofs.names.Core.{core_called, unbind_none, bound_unbind, bound_unbind_other, unique_unbind}
use Rattle.rgo_sound.proofs.names.Core.{held_unbind, bound_held, or_left}
use Rattle.rgo_sound.proofs.names.Edges.{is_named}
use Rattle.rgo_sound.proofs.duties.Moves.{same_regions}
use Rattle.rgo_code.specs.Names.{is_class_named}
use Rattle.rgo_region_machine.specs.Duties.{guards}
use Rattle.rgo_region_machine.specs.Owed.{given_names, passed, passed_regions, same_class}
use Rattle.rgo_region_machine.specs.Regions.{Bindings, bound, class_region, same_region, unbind, without_all}
use Rattle.rgo_region_machine.specs.States.{RegionEnvironment}
use Rattle.rgo_region_machine.specs.declared.regions.Region.{Region}
use Rattle.rgo_region_machine.specs.declared.regions.Region.TheVariants.{Global as GlobalRegion, Numbered}
use Rattle.rgo_sound.specs.Core.{AreUnique, NameInvariant}
use Rattle.rgo_sound.specs.Holding.{held, held_in, is_mine}
use Rattle.rgo_sound.specs.Invariant.{AreProtections, bound_times, same_bound, times}
use Rattle.rgo_sound.specs.Stakes.{one_when, times_in}
use Rattle.rgo_tac.specs.declared.regions.Class.{Class}
use Rattle.rgo_tac.specs.declared.regions.Class.TheVariants.{Global, Name, NoClass}

-- ---- the lists of a call

-- formals are names, each once
abbrev pub AreFormals : List Class → Type 0
AreFormals [] = Unit {0}
AreFormals (Name k ∷ formals) = (list_any (is_class_named k) formals ≡ false) × AreFormals formals
AreFormals (c ∷ formals) = ⊥

-- what is passed has a region
abbrev pub ArePassable : Bindings → List Class → Type 0
ArePassable names [] = Unit {0}
ArePassable names (Name k ∷ regions) = (bound names k ≢ None) × ArePassable names regions
ArePassable names (Global ∷ regions) = ArePassable names regions
ArePassable names (NoClass ∷ regions) = ⊥

-- how often a name is passed
abbrev pub times_named : ℕ → List Class → ℕ
times_named k [] = 0
times_named k (c ∷ cs) = one_when (is_class_named k c) + times_named k cs

-- what the rules on calls and on protections ask of the lists of a call
pub record CallFits (mine lent : Class) (names : Bindings) (formals regions : List Class) (protects : List ℕ) : Type 0
  where
    pub formals_fit : AreFormals formals
    pub passable : ArePassable names regions
    -- what is passed twice is protected, and so is the name of the caller's own result, which is not a holding name: a callee must not
    -- remove either
    pub twice : (k : ℕ) → list_any (nat_eq k) protects ≡ false → times_named k regions ≤ 1
    pub own : (k : ℕ) → list_any (nat_eq k) protects ≡ false → 1 ≤ times_named k regions → is_mine mine k ≡ true

module _ (names : Bindings) (lent : Class) (protects : List ℕ) where
  -- the caller's names that a call gives to its callee
  abbrev pub given : List Class → List Class → List ℕ
  given formals regions = given_names lent formals regions protects

  -- the callee's names and their regions
  abbrev pub to_callee : List Class → List Class → Bindings
  to_callee formals regions = passed formals (passed_regions names regions)

  -- ---- what the callee's names denote

  -- a region that a name of the callee denotes is one that a name of the caller denotes
  pub came : (formals regions : List Class) (j q : ℕ) → bound (to_callee formals regions) j ≡ Some (Numbered q)
      → (k : ℕ) × (bound names k ≡ Some (Numbered q))
  came [] regions j q e = cc
  came (Name i ∷ formals) [] j q e = cc
  came (Global ∷ formals) [] j q e = cc
  came (NoClass ∷ formals) [] j q e = cc
  came (Name i ∷ formals) (c ∷ regions) j q e = go c (class_region names c) refl e (came formals regions j q)
    where
      is : (c : Class) → class_region names c ≡ Some (Numbered q) → (k : ℕ) × (bound names k ≡ Some (Numbered q))
      is NoClass e = cc
      is Global e = cc
      is (Name k) e = (k, e)

      pick : (b : Bool) (c : Class) (r : Region) → class_region names c ≡ Some r
          → (if b then Some r else bound (to_callee formals regions) j) ≡ Some (Numbered q)
          → (bound (to_callee formals regions) j ≡ Some (Numbered q) → (k : ℕ) × (bound names k ≡ Some (Numbered q)))
          → (k : ℕ) × (bound names k ≡ Some (Numbered q))
      pick true c r h e next = is c (h ∙ e)
      pick false c r h e next = next e

      go : (c : Class) (o : Option Region) → class_region names c ≡ o
          → bound (passed (Name i ∷ formals) (o ∷ passed_regions names regions)) j ≡ Some (Numbered q)
          → (bound (to_callee formals regions) j ≡ Some (Numbered q) → (k : ℕ) × (bound names k ≡ Some (Numbered q)))
          → (k : ℕ) × (bound names k ≡ Some (Numbered q))
      go c None h e next = next e
      go c (Some r) h e next = pick (nat_eq i j) c r h e next
  came (Global ∷ formals) (c ∷ regions) j q e = came formals regions j q e
  came (NoClass ∷ formals) (c ∷ regions) j q e = came formals regions j q e

  -- only formals are bound in a callee
  pub not_passed : (formals regions : List Class) (k : ℕ) → list_any (is_class_named k) formals ≡ false
      → bound (to_callee formals regions) k ≡ None
  not_passed [] regions k n = refl
  not_passed (Name i ∷ formals) [] k n = refl
  not_passed (Global ∷ formals) [] k n = refl
  not_passed (NoClass ∷ formals) [] k n = refl
  not_passed (Name i ∷ formals) (c ∷ regions) k n = go (class_region names c)
      (not_passed formals regions k (or_right (nat_eq k i) (list_any (is_class_named k) formals) n))
    where
      go : (o : Option Region) → bound (to_callee formals regions) k ≡ None
          → bound (passed (Name i ∷ formals) (o ∷ passed_regions names regions)) k ≡ None
      go None e = e
      go (Some r) e = ap (λ x. if x then Some r else bound (to_callee formals regions) k)
          (nat_ne_sym k i (or_left (nat_eq k i) (list_any (is_class_named k) formals) n)) ∙ e
  not_passed (Global ∷ formals) (c ∷ regions) k n = not_passed formals regions k n
  not_passed (NoClass ∷ formals) (c ∷ regions) k n = not_passed formals regions k n

  pub passed_unique : (formals regions : List Class) → AreFormals formals → AreUnique (to_callee formals regions)
  passed_unique [] regions f = tt
  passed_unique (Name i ∷ formals) [] f = tt
  passed_unique (Name i ∷ formals) (c ∷ regions) f = go (class_region names c) (not_passed formals regions i f.0)
      (passed_unique formals regions f.1)
    where
      go : (o : Option Region) → bound (to_callee formals regions) i ≡ None → AreUnique (to_callee formals regions)
          → AreUnique (passed (Name i ∷ formals) (o ∷ passed_regions names regions))
      go None n u = u
      go (Some r) n u = (n, u)
  passed_unique (Global ∷ formals) regions f = absurd f
  passed_unique (NoClass ∷ formals) regions f = absurd f

  -- ---- as many names are given as are received

  -- the callee's own names for an unprotected region are as many as the names for it that are given
  pub received : (r : ℕ) (formals regions : List Class) → AreFormals formals → ArePassable names regions
      → ((k : ℕ) → list_any (nat_eq k) protects ≡ true → same_bound (Numbered r) (bound names k) ≡ false)
      → held_in lent r (to_callee formals regions) ≡ bound_times (Numbered r) names (given formals regions)
  received r [] regions f p u = refl
  received r (Name i ∷ formals) [] f p u = refl
  received r (Name i ∷ formals) (Name k ∷ regions) f p u =
      go (bound names k) refl (is_class_named i lent) (list_any (nat_eq k) protects) refl refl
      (received r formals regions f.1 p.1 u)
    where
      go : (o : Option Region) → bound names k ≡ o → (l m : Bool) → is_class_named i lent ≡ l → list_any (nat_eq k) protects
          ≡ m → held_in lent r (to_callee formals regions) ≡ bound_times (Numbered r) names (given formals regions)
          → held_in lent r (passed (Name i ∷ formals) (o ∷ passed_regions names regions))
          ≡ bound_times (Numbered r) names (if m || l then given formals regions else k ∷ given formals regions)
      go None b l m el em h = absurd (p.0 b)
      go (Some q) b true true el em h = let a : one_when (is_mine lent i && same_region (Numbered r) q) ≡ 0 =
          ap (λ x. one_when (not x && same_region (Numbered r) q)) el in omega (arith, a, h)
      go (Some q) b true false el em h = let a : one_when (is_mine lent i && same_region (Numbered r) q) ≡ 0 =
          ap (λ x. one_when (not x && same_region (Numbered r) q)) el in omega (arith, a, h)
      go (Some q) b false true el em h =
          let n : same_region (Numbered r) q ≡ false = sym (ap (same_bound (Numbered r)) b) ∙ u k em in
          let a : one_when (is_mine lent i && same_region (Numbered r) q) ≡ 0 =
          ap (λ x. one_when (is_mine lent i && x)) n ∙ none_if (is_mine lent i) in
          omega (arith, a, h)
      go (Some q) b false false el em h =
          let a : one_when (is_mine lent i && same_region (Numbered r) q) ≡ one_when (same_region (Numbered r) q) =
          ap (λ x. one_when (not x && same_region (Numbered r) q)) el in
          let c : one_when (same_bound (Numbered r) (bound names k)) ≡ one_when (same_region (Numbered r) q) =
          ap (λ x. one_when (same_bound (Numbered r) x)) b in
          omega (arith, a, c, h)
  received r (Name i ∷ formals) (Global ∷ regions) f p u =
      let a : one_when (is_mine lent i && false) ≡ 0 = none_if (is_mine lent i) in
      let h = received r formals regions f.1 p u in
      omega (arith, a, h)
  received r (Name i ∷ formals) (NoClass ∷ regions) f p u = absurd p
  received r (Global ∷ formals) regions f p u = absurd f
  received r (NoClass ∷ formals) regions f p u = absurd f

  -- what is given was passed, and is not protected
  pub given_times : (formals regions : List Class) (k : ℕ) → times_in k (given formals regions) ≤ times_named k regions
  given_times [] regions k = omega arith
  given_times (Name i ∷ formals) [] k = omega arith
  given_times (Global ∷ formals) [] k = omega arith
  given_times (NoClass ∷ formals) [] k = omega arith
  given_times (c ∷ formals) (Name j ∷ regions) k = go (list_any (nat_eq j) protects || same_class c lent)
      (given_times formals regions k)
    where
      go : (b : Bool) → times_in k (given formals regions) ≤ times_named k regions
          → times_in k (if b then given formals regions else j ∷ given formals regions) ≤ one_when (nat_eq k j) +
          times_named k regions
      go true h = omega (arith, h)
      go false h = omega (arith, h)
  given_times (c ∷ formals) (Global ∷ regions) k = let h = given_times formals regions k in omega (arith, h)
  given_times (c ∷ formals) (NoClass ∷ regions) k = let h = given_times formals regions k in omega (arith, h)

  pub given_free : (formals regions : List Class) (k : ℕ) → 1 ≤ times_in k (given formals regions)
      → list_any (nat_eq k) protects ≡ false
  given_free [] regions k h = absurd (omega (arith, h))
  given_free (Name i ∷ formals) [] k h = absurd (omega (arith, h))
  given_free (Global ∷ formals) [] k h = absurd (omega (arith, h))
  given_free (NoClass ∷ formals) [] k h = absurd (omega (arith, h))
  given_free (c ∷ formals) (Name j ∷ regions) k h = go (list_any (nat_eq j) protects || same_class c lent) refl h
      (given_free formals regions k)
    where
      here : (x : Bool) → nat_eq k j ≡ x → (list_any (nat_eq j) protects || same_class c lent) ≡ false
          → 1 ≤ one_when x + times_in k (given formals regions)
          → (1 ≤ times_in k (given formals regions) → list_any (nat_eq k) protects ≡ false)
          → list_any (nat_eq k) protects ≡ false
      here true t e h next = ap (λ x. list_any (nat_eq x) protects) (eq_of k j t)
          ∙ or_left (list_any (nat_eq j) protects) (same_class c lent) e
      here false n e h next = next (omega (arith, h))

      go : (b : Bool) → (list_any (nat_eq j) protects || same_class c lent) ≡ b
          → 1 ≤ times_in k (if b then given formals regions else j ∷ given formals regions)
          → (1 ≤ times_in k (given formals regions) → list_any (nat_eq k) protects ≡ false)
          → list_any (nat_eq k) protects ≡ false
      go true e h next = next h
      go false e h next = here (nat_eq k j) refl e h next
  given_free (c ∷ formals) (Global ∷ regions) k h = given_free formals regions k h
  given_free (c ∷ formals) (NoClass ∷ regions) k h = given_free formals regions k h

  -- the name that is passed for the callee's result is given at least once less than it is passed, so the caller keeps it
  pub lent_at : (formals regions : List Class) (m r : ℕ) → lent ≡ Name m → AreFormals formals
      → bound (to_callee formals regions) m ≡ Some (Numbered r) → (k : ℕ) × (bound names k ≡ Some (Numbered r))
      × (suc (times_in k (given formals regions)) ≤ times_named k regions)
  lent_at [] regions m r l f e = cc
  lent_at (Global ∷ formals) regions m r l f e = absurd f
  lent_at (NoClass ∷ formals) regions m r l f e = absurd f
  lent_at (Name i ∷ formals) [] m r l f e = cc
  lent_at (Name i ∷ formals) (NoClass ∷ regions) m r l f e = let x = lent_at formals regions m r l f.1 e in
      (x.0, x.1, omega (arith, x.2))
  lent_at (Name i ∷ formals) (Global ∷ regions) m r l f e =
      go (nat_eq i m) e (λ e'. lent_at formals regions m r l f.1 e')
    where
      go : (b : Bool) → (if b then Some GlobalRegion else bound (to_callee formals regions) m) ≡ Some (Numbered r)
          → (bound (to_callee formals regions) m ≡ Some (Numbered r) → (k : ℕ) × (bound names k ≡ Some (Numbered r))
          × (suc (times_in k (given formals regions)) ≤ times_named k regions)) → (k : ℕ)
          × (bound names k ≡ Some (Numbered r)) × (suc (times_in k (given formals regions)) ≤ 0 + times_named k regions)
      go true e' rest = cc
      go false e' rest = let x = rest e' in (x.0, x.1, omega (arith, x.2))
  lent_at (Name i ∷ formals) (Name j ∷ regions) m r l f e =
      go (bound names j) refl (nat_eq i m) refl e (λ e'. lent_at formals regions m r l f.1 e')
    where
      more : (b : Bool) (k : ℕ) → suc (times_in k (given formals regions)) ≤ times_named k regions
          → suc (times_in k (if b then given formals regions else j ∷ given formals regions)) ≤ one_when (nat_eq k j) +
          times_named k regions
      more true k h = omega (arith, h)
      more false k h = omega (arith, h)

      or_true : (b : Bool) → (b || true) ≡ true
      or_true true = refl
      or_true false = refl

      go : (o : Option Region) → bound names j ≡ o → (b : Bool) → nat_eq i m ≡ b
          → bound (passed (Name i ∷ formals) (o ∷ passed_regions names regions)) m ≡ Some (Numbered r)
          → (bound (to_callee formals regions) m ≡ Some (Numbered r) → (k : ℕ) × (bound names k ≡ Some (Numbered r))
          × (suc (times_in k (given formals regions)) ≤ times_named k regions)) → (k : ℕ)
          × (bound names k ≡ Some (Numbered r)) × (suc (times_in k (given (Name i ∷ formals) (Name j ∷ regions))) ≤
          one_when (nat_eq k j) + times_named k regions)
      go None h b t e' next = let x = next e' in (
        x.0,
        x.1,
        more (list_any (nat_eq j) protects || is_class_named i lent) x.0
            x.2,
      )
      go (Some q) h false n e' next =
          let e'' : bound (to_callee formals regions) m ≡ Some (Numbered r) =
          ap (λ x. if x then Some q else bound (to_callee formals regions) m) (sym n) ∙ e' in
          let x = next e'' in (x.0, x.1, more (list_any (nat_eq j) protects || is_class_named i lent) x.0 x.2)
      go (Some q) h true t e' next =
          let v : Some q ≡ Some (Numbered r) = ap (λ x. if x then Some q else bound (to_callee formals regions) m)
          (sym t) ∙ e' in
          let l' : is_class_named i lent ≡ true = ap (is_class_named i) l ∙ t in
          let c : (list_any (nat_eq j) protects || is_class_named i lent) ≡ true =
          ap (λ x. list_any (nat_eq j) protects || x) l' ∙ or_true (list_any (nat_eq j) protects) in
          let w : times_in j (given (Name i ∷ formals) (Name j ∷ regions)) ≡ times_in j (given formals regions) =
          ap (λ x. times_in j (if x then given formals regions else j ∷ given formals regions)) c in
          let g = given_times formals regions j in
          let s : one_when (nat_eq j j) ≡ 1 = ap one_when (nat_eq_refl j) in
          (j, h ∙ v, omega (arith, w, g, s))

-- ---- what is left to the caller

-- a name that is not given denotes what it denoted
pub left_other : (ks : List ℕ) (names : Bindings) (j : ℕ) → times_in j ks ≡ 0 → bound (without_all names ks) j
    ≡ bound names j
left_other [] names j z = refl
left_other (k ∷ ks) names j z = go (nat_eq j k) refl z (λ z'. left_other ks (unbind names k) j z')
  where
    go : (b : Bool) → nat_eq j k ≡ b → one_when b + times_in j ks ≡ 0
        → (times_in j ks ≡ 0 → bound (without_all (unbind names k) ks) j ≡ bound (unbind names k) j)
        → bound (without_all (unbind names k) ks) j ≡ bound names j
    go true t z next = absurd (omega (arith, z))
    go false n z next = next (omega (arith, z)) ∙ bound_unbind_other names k j (nat_ne_sym j k n)

-- a name that denoted no region still denotes none
pub left_gone : (ks : List ℕ) (names : Bindings) (j : ℕ) → bound names j ≡ None → bound (without_all names ks) j ≡ None
left_gone [] names j e = e
left_gone (k ∷ ks) names j e = left_gone ks (unbind names k) j
    (split (nat_eq k j) (λ t. subst (λ x. bound (unbind names k) x ≡ None) (eq_of k j t) (bound_unbind names k))
    (λ n. bound_unbind_other names k j n ∙ e))

-- a given name denotes no region any more
pub left_given : (ks : List ℕ) (names : Bindings) (j : ℕ) → 1 ≤ times_in j ks → bound (without_all names ks) j ≡ None
left_given [] names j h = absurd (omega (arith, h))
left_given (k ∷ ks) names j h = go (nat_eq j k) refl h (λ h'. left_given ks (unbind names k) j h')
  where
    go : (b : Bool) → nat_eq j k ≡ b → 1 ≤ one_when b + times_in j ks
        → (1 ≤ times_in j ks → bound (without_all (unbind names k) ks) j ≡ None)
        → bound (without_all (unbind names k) ks) j ≡ None
    go true t h next = left_gone ks (unbind names k) j (subst (λ x. bound (unbind names k) x ≡ None) (sym (eq_of j k t))
        (bound_unbind names k))
    go false n h next = next (omega (arith, h))

pub left_unique : (ks : List ℕ) (names : Bindings) → AreUnique names → AreUnique (without_all names ks)
left_unique [] names u = u
left_unique (k ∷ ks) names u = left_unique ks (unbind names k) (unique_unbind names k u)

-- a name that still denotes a region denoted it before
pub left_was : (ks : List ℕ) (names : Bindings) (j : ℕ) (q : Region) → bound (without_all names ks) j ≡ Some q
    → bound names j ≡ Some q
left_was ks names j q e = go (bound names j) refl
  where
    go : (o : Option Region) → bound names j ≡ o → bound names j ≡ Some q
    go None n = let x = left_gone ks names j n in cc
    go (Some p) n = split_on (times_in j ks) refl
      where
        split_on : (n' : ℕ) → times_in j ks ≡ n' → bound names j ≡ Some q
        split_on zero z = sym (left_other ks names j z) ∙ e
        split_on (suc m) z = let x = left_given ks names j (omega (arith, z)) in cc

-- when given own names are unbound, the count loses each of them once
pub left_count : (mine : Class) (r : ℕ) (ks : List ℕ) (names : Bindings) → AreUnique names
    → ((k : ℕ) → times_in k ks ≤ 1) → ((k : ℕ) → 1 ≤ times_in k ks → is_mine mine k ≡ true) → held_in mine r names
    ≡ bound_times (Numbered r) names ks + held_in mine r (without_all names ks)
left_count mine r [] names u d m = omega arith
left_count mine r (k ∷ ks) names u d m = go (bound names k) refl
    (left_count mine r ks (unbind names k) (unique_unbind names k u) (λ j. fewer (nat_eq j k) (d j))
    (λ j h. m j (omega (arith, h))))
  where
    fewer : {n : ℕ} (b : Bool) → one_when b + n ≤ 1 → n ≤ 1
    fewer true h = omega (arith, h)
    fewer false h = omega (arith, h)

    no_more : times_in k ks ≡ 0
    no_more = let a = d k in let b : one_when (nat_eq k k) ≡ 1 = ap one_when (nat_eq_refl k) in omega (arith, a, b)

    mine_here : is_mine mine k ≡ true
    mine_here = m k (let b : one_when (nat_eq k k) ≡ 1 = ap one_when (nat_eq_refl k) in omega (arith, b))

    -- the others denote what they denoted
    same : (js : List ℕ) → times_in k js ≡ 0 → bound_times (Numbered r) (unbind names k) js
        ≡ bound_times (Numbered r) names js
    same [] z = refl
    same (j ∷ js) z = other (nat_eq k j) refl z (λ z'. same js z')
      where
        other : (b : Bool) → nat_eq k j ≡ b → one_when b + times_in k js ≡ 0
            → (times_in k js ≡ 0 → bound_times (Numbered r) (unbind names k) js ≡ bound_times (Numbered r) names js)
            → one_when (same_bound (Numbered r) (bound (unbind names k) j)) + bound_times (Numbered r) (unbind names k) js
            ≡ one_when (same_bound (Numbered r) (bound names j)) + bound_times (Numbered r) names js
        other true t z next = absurd (omega (arith, z))
        other false n z next =
            let a : one_when (same_bound (Numbered r) (bound (unbind names k) j))
            ≡ one_when (same_bound (Numbered r) (bound names j)) =
            ap (λ x. one_when (same_bound (Numbered r) x)) (bound_unbind_other names k j n) in
            let b = next (omega (arith, z)) in
            omega (arith, a, b)

    go : (o : Option Region) → bound names k ≡ o → held_in mine r (unbind names k)
        ≡ bound_times (Numbered r) (unbind names k) ks + held_in mine r (without_all (unbind names k) ks)
        → held_in mine r names ≡ (one_when (same_bound (Numbered r) (bound names k)) + bound_times (Numbered r) names ks)
        + held_in mine r (without_all (unbind names k) ks)
    go None e h =
        let a : one_when (same_bound (Numbered r) (bound names k)) ≡ 0 = ap (λ x. one_when (same_bound (Numbered r) x)) e in
        let s = same ks no_more in
        let i : held_in mine r (unbind names k) ≡ held_in mine r names = ap (held_in mine r) (unbind_none names k e) in
        omega (arith, a, h, s, i)
    go (Some q) e h =
        let a : one_when (same_bound (Numbered r) (bound names k)) ≡ one_when (same_region (Numbered r) q) =
        ap (λ x. one_when (same_bound (Numbered r) x)) e in
        let b : one_when (is_mine mine k && same_region (Numbered r) q) ≡ one_when (same_region (Numbered r) q) =
        ap (λ x. one_when (x && same_region (Numbered r) q)) mine_here in
        let s = same ks no_more in
        let i = held_unbind mine r names k q u e in
        omega (arith, a, b, h, s, i)

-- ---- a call keeps the counts of the goroutine

-- either none of these names denotes r, or one of them does
found_in : (r : Region) (names : Bindings) (ks : List ℕ) → (bound_times r names ks ≡ 0)
    ⊎ ((k : ℕ) × (1 ≤ times_in k ks) × (bound names k ≡ Some r))
found_in r names [] = inl refl
found_in r names (k ∷ ks) = go (bound names k) refl (found_in r names ks)
  where
    first : 1 ≤ times_in k (k ∷ ks)
    first = let a : one_when (nat_eq k k) ≡ 1 = ap one_when (nat_eq_refl k) in omega (arith, a)

    go : (o : Option Region) → bound names k ≡ o → (bound_times r names ks ≡ 0)
        ⊎ ((j : ℕ) × (1 ≤ times_in j ks) × (bound names j ≡ Some r))
        → (one_when (same_bound r (bound names k)) + bound_times r names ks ≡ 0)
        ⊎ ((j : ℕ) × (1 ≤ one_when (nat_eq j k) + times_in j ks) × (bound names j ≡ Some r))
    go o e (inr (j, h, b)) = inr (j, omega (arith, h), b)
    go None e (inl z) = inl (let a : one_when (same_bound r (bound names k)) ≡ 0 = ap (λ x. one_when (same_bound r x)) e in
        omega (arith, a, z))
    go (Some q) e (inl z) = by (same_region r q) refl
      where
        by : (b : Bool) → same_region r q ≡ b → (one_when (same_bound r (bound names k)) + bound_times r names ks ≡ 0)
            ⊎ ((j : ℕ) × (1 ≤ one_when (nat_eq j k) + times_in j ks) × (bound names j ≡ Some r))
        by true t = inr (k, first, e ∙ ap Some (sym (same_regions r q t)))
        by false n = inl (let a : one_when (same_bound r (bound names k)) ≡ 0 =
            ap (λ x. one_when (same_bound r x)) e ∙ ap one_when n in omega (arith, a, z))

times_any : (k : ℕ) (ks : List ℕ) → 1 ≤ times_in k ks → list_any (nat_eq k) ks ≡ true
times_any k [] h = absurd (omega (arith, h))
times_any k (j ∷ ks) h = go (nat_eq k j) h (times_any k ks)
  where
    go : (b : Bool) → 1 ≤ one_when b + times_in k ks → (1 ≤ times_in k ks → list_any (nat_eq k) ks ≡ true)
        → (b || list_any (nat_eq k) ks) ≡ true
    go true h next = refl
    go false h next = next (omega (arith, h))

any_times : (r : Region) (ss : List Region) → list_any (same_region r) ss ≡ true → 1 ≤ times r ss
any_times r [] e = cc
any_times r (s ∷ ss) e = go (same_region r s) e (any_times r ss)
  where
    go : (b : Bool) → (b || list_any (same_region r) ss) ≡ true → (list_any (same_region r) ss ≡ true → 1 ≤ times r ss)
        → 1 ≤ one_when b + times r ss
    go true e next = omega arith
    go false e next = let h = next e in omega (arith, h)

none_times : (r : Region) (ss : List Region) → list_any (same_region r) ss ≡ false → times r ss ≡ 0
none_times r [] e = refl
none_times r (s ∷ ss) e = go (same_region r s) e (none_times r ss)
  where
    go : (b : Bool) → (b || list_any (same_region r) ss) ≡ false
        → (list_any (same_region r) ss ≡ false → times r ss ≡ 0) → one_when b + times r ss ≡ 0
    go true e next = cc
    go false e next = let h = next e in omega (arith, h)

-- if the count of these names for r is zero, each of them denotes another region or none
none_bound : (r : Region) (names : Bindings) (ks : List ℕ) (k : ℕ) → bound_times r names ks ≡ 0 → list_any (nat_eq k) ks
    ≡ true → same_bound r (bound names k) ≡ false
none_bound r names [] k z e = cc
none_bound r names (j ∷ ks) k z e = go (nat_eq k j) refl e (same_bound r (bound names j)) refl z
    (none_bound r names ks k)
  where
    go : (b : Bool) → nat_eq k j ≡ b → (b || list_any (nat_eq k) ks) ≡ true → (c : Bool) → same_bound r (bound names j)
        ≡ c → one_when c + bound_times r names ks ≡ 0 → (bound_times r names ks ≡ 0 → list_any (nat_eq k) ks ≡ true
        → same_bound r (bound names k) ≡ false) → same_bound r (bound names k) ≡ false
    go true t e false n z next = ap (λ x. same_bound r (bound names x)) (eq_of k j t) ∙ n
    go true t e true n z next = absurd (omega (arith, z))
    go false t e c n z next = next (omega (arith, z)) e

or_second : (a b : Bool) → (a || b) ≡ true → b ≡ false → a ≡ true
or_second true b e n = refl
or_second false b e n = absurd (true≢false (sym e ∙ n))

module _ (stakes : List ℕ) (base : List Region) (f : RegionEnvironment) (fs : List RegionEnvironment) (callee : Class)
    (formals regions : List Class) (protects : List ℕ) (fits : CallFits f.lent callee f.names formals regions protects)
    (protections : AreProtections f.protections f.names protects) (core : NameInvariant stakes base (f ∷ fs)) where
  abbrev gives : List ℕ
  gives = given_names callee formals regions protects

  abbrev callee_environment : RegionEnvironment
  callee_environment = record {
    lent = callee;
    names = passed formals (passed_regions f.names regions);
    protections =
        [];
  }

  abbrev left_names : Bindings
  left_names = without_all f.names (given_names callee formals regions protects)

  -- a protected name does not denote an unprotected region
  free : (r : ℕ) → guards base (f ∷ fs) (Numbered r) ≡ false → (k : ℕ) → list_any (nat_eq k) protects ≡ true
      → same_bound (Numbered r) (bound f.names k) ≡ false
  free r u k p = none_bound (Numbered r) f.names protects k
      (sym (protections (Numbered r)) ∙ none_times (Numbered r) f.protections
      (or_left (list_any (same_region (Numbered r)) f.protections) (guards base fs (Numbered r)) u)) p

  given_once : (k : ℕ) → times_in k gives ≤ 1
  given_once k = go (times_in k gives) refl
    where
      go : (n : ℕ) → times_in k gives ≡ n → times_in k gives ≤ 1
      go zero z = omega (arith, z)
      go (suc n) z =
          let a = fits.twice k (given_free f.names callee protects formals regions k (omega (arith, z))) in
          let b = given_times f.names callee protects formals regions k in
          omega (arith, a, b)

  given_mine : (k : ℕ) → 1 ≤ times_in k gives → is_mine f.lent k ≡ true
  given_mine k h = let b = given_times f.names callee protects formals regions k in
      fits.own k (given_free f.names callee protects formals regions k h) (omega (arith, b, h))

  count : (r : ℕ) → held_in f.lent r f.names ≡ bound_times (Numbered r) f.names gives + held_in f.lent r left_names
  count r = left_count f.lent r gives f.names core.unique.0 given_once given_mine

  -- an unprotected region has as many holding names after the call as before
  conserved : (r : ℕ) → guards base (f ∷ fs) (Numbered r) ≡ false
      → held_in callee r callee_environment.names + held_in f.lent r left_names ≡ held_in f.lent r f.names
  conserved r u =
      let a = received f.names callee protects r formals regions fits.formals_fit fits.passable (free r u) in
      let b = count r in
      omega (arith, a, b)

  -- a region that the caller protects, and no frame below it, has no given name; so the caller's count of it stays one
  guarded : (r : ℕ) → guards base fs (Numbered r) ≡ false → guards base (f ∷ fs) (Numbered r) ≡ true
      → held_in f.lent r left_names ≡ held_in f.lent r f.names
  guarded r n t = go (found_in (Numbered r) f.names gives)
    where
      protected_here : list_any (same_region (Numbered r)) f.protections ≡ true
      protected_here = or_second (list_any (same_region (Numbered r)) f.protections) (guards base fs (Numbered r)) t n

      some : 1 ≤ bound_times (Numbered r) f.names protects
      some = let a = any_times (Numbered r) f.protections protected_here in let b = protections (Numbered r) in
          omega (arith, a, b)

      clash : (k j : ℕ) → 1 ≤ times_in k gives → bound f.names k ≡ Some (Numbered r) → 1 ≤ times_in j protects
          → bound f.names j ≡ Some (Numbered r) → ⊥
      clash k j gk bk pj bj =
          split (is_mine f.lent j) (λ m. two m) (λ l. lends (core.lent.0 j r (lent_of l) bj n))
        where
          differs : nat_eq k j ≡ false
          differs = ne_of k j (λ e. true≢false (sym (times_any j protects pj)
              ∙ ap (λ x. list_any (nat_eq x) protects) (sym e)
              ∙ given_free f.names callee protects formals regions k gk))

          one : held r (f ∷ fs) ≡ 1
          one = (core.once r (core.staked.0 k r bk)).0 n

          lent_of : is_mine f.lent j ≡ false → f.lent ≡ Name j
          lent_of l = is_named j f.lent (flip (is_class_named j f.lent) l)
            where
              flip : (b : Bool) → not b ≡ false → b ≡ true
              flip true e = refl
              flip false e = cc

          unbound : held_in f.lent r f.names ≡ 1 + held_in f.lent r (unbind f.names k)
          unbound =
              let a = held_unbind f.lent r f.names k (Numbered r) core.unique.0 bk in
              let b : one_when (is_mine f.lent k && same_region (Numbered r) (Numbered r)) ≡ 1 =
              ap (λ x. one_when (x && same_region (Numbered r) (Numbered r))) (given_mine k gk)
              ∙ ap one_when (nat_eq_refl r) in
              omega (arith, a, b)

          two : is_mine f.lent j ≡ true → ⊥
          two m =
              let a = bound_held f.lent r (unbind f.names k) j (unique_unbind f.names k core.unique.0)
              (bound_unbind_other f.names k j differs ∙ bj) m in
              omega (arith, a, unbound, one)

          lends : 1 ≤ held r fs → ⊥
          lends h = omega (arith, h, unbound, one)

      go : (bound_times (Numbered r) f.names gives ≡ 0) ⊎ ((k : ℕ) × (1 ≤ times_in k gives)
          × (bound f.names k ≡ Some (Numbered r))) → held_in f.lent r left_names ≡ held_in f.lent r f.names
      go (inl z) = let b = count r in omega (arith, b, z)
      go (inr (k, gk, bk)) = absurd (with_protected (found_in (Numbered r) f.names protects))
        where
          with_protected : (bound_times (Numbered r) f.names protects ≡ 0)
              ⊎ ((j : ℕ) × (1 ≤ times_in j protects) × (bound f.names j ≡ Some (Numbered r))) → ⊥
          with_protected (inl z) = omega (arith, z, some)
          with_protected (inr (j, pj, bj)) = clash k j gk bk pj bj

  -- the region of the callee's result has a holding name below, unless it is protected
  lends : (m r : ℕ) → callee ≡ Name m → bound callee_environment.names m ≡ Some (Numbered r)
      → guards base (f ∷ fs) (Numbered r) ≡ false → 1 ≤ held_in f.lent r left_names + held r fs
  lends m r l e u = go (lent_at f.names callee protects formals regions m r l fits.formals_fit e)
    where
      go : (k : ℕ) × (bound f.names k ≡ Some (Numbered r)) × (suc (times_in k gives) ≤ times_named k regions)
          → 1 ≤ held_in f.lent r left_names + held r fs
      go (k, b, h) =
          let unprotected : list_any (nat_eq k) protects ≡ false =
          split (list_any (nat_eq k) protects) (λ t. absurd
          (true≢false (sym (ap (same_bound (Numbered r)) b ∙ nat_eq_refl r) ∙ free r u k t))) (λ n. n) in
          let t = fits.twice k unprotected in
          let z : times_in k gives ≡ 0 = omega (arith, h, t) in
          let mine = fits.own k unprotected (omega (arith, h)) in
          let x = bound_held f.lent r left_names k (left_unique gives f.names core.unique.0)
          (left_other gives f.names k z ∙ b) mine in
          omega (arith, x)

  -- the counts after a call
  pub called_core : NameInvariant stakes base (callee_environment ∷ record f { names = left_names } ∷ fs)
  called_core =
      core_called stakes base f fs gives callee_environment left_names
      (record {
        without_protection = refl;
        unique = passed_unique f.names callee protects formals regions fits.formals_fit;
        unique_left = left_unique gives f.names core.unique.0;
        left_was = left_was gives f.names;
        came = came f.names callee protects formals regions;
        conserved = conserved;
        guarded = guarded;
        lends = lends;
      })
      core
