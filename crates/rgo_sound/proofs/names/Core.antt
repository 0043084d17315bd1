-- How each step changes the count of holding names, and why each region of a goroutine keeps one holding name.
-- Each lemma `core_..` is one kind of change of a goroutine's frames, whatever instruction caused it. The hard one is the last removal
-- (`core_removed`). The stake may end only if no name of the goroutine denotes the region afterwards: no second holding name can, since
-- the count is one, and no name of a result, since it would have a holding name below (`names_below`).
use Rattle.std.proofs.Common.{◌≡◌, ℕ, ◌+◌, ◌≤◌, Bool, true, false, not, ◌&&◌, ◌||◌, List, [], ◌∷◌, Some, None, refl}
use Rattle.std.proofs.Common.{sym, ap, ◌∙◌, subst, nat_eq, if◌then◌else◌, arith, ◌⊎◌, inl, inr, true≢false}
use Rattle.std.specs.List.{list_any}
use Rattle.rgo_sound.proofs.Tests.{none_if, eq_of, split, or_right, or_there, nat_eq_refl, nat_ne_sym}
use Rattle.rgo_region_machine.specs.Duties.{guards}
use Rattle.rgo_region_machine.specs.Regions.{Bindings, bound, same_region, unbind, without}
use Rattle.rgo_region_machine.specs.States.{RegionEnvironment}
use Rattle.rgo_region_machine.specs.declared.regions.Region.{Region}
use Rattle.rgo_region_machine.specs.declared.regions.Region.TheVariants.{Global as GlobalRegion, Numbered}
use Rattle.rgo_sound.specs.Core.{AreLentBelow, AreStaked, AreUnique, AreUniqueIn, NameInvariant, IsHeldOnce, IsLentBelow}
use Rattle.rgo_sound.specs.Core.{NamesStaked, RegionsStaked}
use Rattle.rgo_sound.specs.Holding.{held, held_in, is_mine}
use Rattle.rgo_sound.specs.Stakes.{is_in, one_when}
use Rattle.rgo_tac.specs.declared.regions.Class.{Class}
use Rattle.rgo_tac.specs.declared.regions.Class.TheVariants.{Global, Name, NoClass}

-- ---- names

-- an unbound name denotes nothing, and the others denote what they denoted
pub bound_unbind : (names : Bindings) (k : ℕ) → bound (unbind names k) k ≡ None
bound_unbind [] k = refl
bound_unbind (b ∷ bs) k = grind (arith, bound_unbind bs k)

pub bound_unbind_other : (names : Bindings) (k j : ℕ) → nat_eq k j ≡ false → bound (unbind names k) j ≡ bound names j
bound_unbind_other [] k j h = refl
bound_unbind_other (b ∷ bs) k j h = grind (arith, bound_unbind_other bs k j h)

bound_unbind_none : (names : Bindings) (k j : ℕ) → bound names j ≡ None → bound (unbind names k) j ≡ None
bound_unbind_none names k j e = split (nat_eq k j) (λ t.
    subst (λ x. bound (unbind names k) x ≡ None) (eq_of k j t) (bound_unbind names k))
    (λ f. bound_unbind_other names k j f ∙ e)

-- to unbind what is not bound changes nothing
pub unbind_none : (names : Bindings) (k : ℕ) → bound names k ≡ None → unbind names k ≡ names
unbind_none [] k e = refl
unbind_none (b ∷ bs) k e = grind (arith, unbind_none bs k)

pub unique_unbind : (names : Bindings) (k : ℕ) → AreUnique names → AreUnique (unbind names k)
unique_unbind [] k u = tt
unique_unbind (b ∷ bs) k u = go (nat_eq b.0 k) (unique_unbind bs k u.1)
  where
    go : (t : Bool) → AreUnique (unbind bs k) → AreUnique (if t then unbind bs k else b ∷ unbind bs k)
    go true h = h
    go false h = (bound_unbind_none bs k b.0 u.0, h)

-- ---- counting

-- to unbind a name takes from the count what the name counted for
pub held_unbind : (lent : Class) (r : ℕ) (names : Bindings) (k : ℕ) (q : Region) → AreUnique names → bound names k
    ≡ Some q → held_in lent r names ≡ one_when (is_mine lent k && same_region (Numbered r) q) + held_in lent r
    (unbind names k)
held_unbind lent r [] k q u e = cc
held_unbind lent r (b ∷ bs) k q u e = split (nat_eq b.0 k) (λ t. here t) (λ f. there f (held_unbind lent r bs k q u.1))
  where
    here : nat_eq b.0 k ≡ true → held_in lent r (b ∷ bs) ≡ one_when (is_mine lent k && same_region (Numbered r) q) +
        held_in lent r (unbind (b ∷ bs) k)
    here t =
        let same : b.0 ≡ k = eq_of b.0 k t in
        let value : b.1 ≡ q = grind arith in
        let none : bound bs k ≡ None = subst (λ x. bound bs x ≡ None) same u.0 in
        let rest : unbind (b ∷ bs) k ≡ bs = ap (λ x. if x then unbind bs k else b ∷ unbind bs k) t
        ∙ unbind_none bs k none in
        ap (λ x. one_when (is_mine lent x && same_region (Numbered r) b.1) + held_in lent r bs) same
        ∙ ap (λ x. one_when (is_mine lent k && same_region (Numbered r) x) + held_in lent r bs) value
        ∙ ap (λ x. one_when (is_mine lent k && same_region (Numbered r) q) + held_in lent r x) (sym rest)

    there : nat_eq b.0 k ≡ false → (bound bs k ≡ Some q → held_in lent r bs
        ≡ one_when (is_mine lent k && same_region (Numbered r) q) + held_in lent r (unbind bs k))
        → held_in lent r (b ∷ bs) ≡ one_when (is_mine lent k && same_region (Numbered r) q) + held_in lent r
        (unbind (b ∷ bs) k)
    there f next =
        let e' : bound bs k ≡ Some q = ap (λ x. if x then Some b.1 else bound bs k) (sym f) ∙ e in
        let h : held_in lent r bs ≡ one_when (is_mine lent k && same_region (Numbered r) q) + held_in lent r
        (unbind bs k) = next e' in
        let rest : unbind (b ∷ bs) k ≡ b ∷ unbind bs k = ap (λ x. if x then unbind bs k else b ∷ unbind bs k) f in
        let rest' : held_in lent r (unbind (b ∷ bs) k) ≡ one_when (is_mine lent b.0 && same_region (Numbered r) b.1) +
        held_in lent r (unbind bs k) = ap (held_in lent r) rest in
        omega (arith, h, rest')

same_self : (r : ℕ) → same_region (Numbered r) (Numbered r) ≡ true
same_self r = nat_eq_refl r

-- an own name that denotes r counts for r
pub bound_held : (lent : Class) (r : ℕ) (names : Bindings) (k : ℕ) → AreUnique names → bound names k ≡ Some (Numbered r)
    → is_mine lent k ≡ true → 1 ≤ held_in lent r names
bound_held lent r names k u e m =
    let h = held_unbind lent r names k (Numbered r) u e in
    let one : one_when (is_mine lent k && same_region (Numbered r) (Numbered r)) ≡ 1 =
    ap (λ x. one_when (x && same_region (Numbered r) (Numbered r))) m ∙ ap one_when (same_self r) in
    omega (arith, h, one)

-- the count is zero, or an own name denotes the region
pub found : (lent : Class) (r : ℕ) (names : Bindings) → AreUnique names → (held_in lent r names ≡ 0)
    ⊎ ((k : ℕ) × (bound names k ≡ Some (Numbered r)) × (is_mine lent k ≡ true))
found lent r [] u = inl refl
found lent r (b ∷ bs) u = go (is_mine lent b.0) (same_region (Numbered r) b.1) refl refl (found lent r bs u.1)
  where
    is_same : (q : Region) → same_region (Numbered r) q ≡ true → q ≡ Numbered r
    is_same GlobalRegion e = cc
    is_same (Numbered q) e = ap Numbered (sym (eq_of r q e))

    go : (m t : Bool) → is_mine lent b.0 ≡ m → same_region (Numbered r) b.1 ≡ t → (held_in lent r bs ≡ 0)
        ⊎ ((k : ℕ) × (bound bs k ≡ Some (Numbered r)) × (is_mine lent k ≡ true))
        → (one_when (is_mine lent b.0 && same_region (Numbered r) b.1) + held_in lent r bs ≡ 0)
        ⊎ ((k : ℕ) × (bound (b ∷ bs) k ≡ Some (Numbered r)) × (is_mine lent k ≡ true))
    go true true m t rest = inr (
      b.0,
      ap (λ x. if x then Some b.1 else bound bs b.0) (nat_eq_refl b.0)
          ∙ ap Some (is_same b.1 t),
      m,
    )
    go m t em et (inr (k, e, mk)) =
        inr (
          k,
          split (nat_eq b.0 k) (λ s. absurd (clash s)) (λ f. ap (λ x. if x then Some b.1 else bound bs k) f ∙ e),
          mk,
        )
      where
        clash : nat_eq b.0 k ≡ true → ⊥
        clash s = let n : bound bs k ≡ None = subst (λ x. bound bs x ≡ None) (eq_of b.0 k s) u.0 in cc
    go false t em et (inl z) = inl (let a : one_when (is_mine lent b.0 && same_region (Numbered r) b.1) ≡ 0 =
        ap (λ x. one_when (x && same_region (Numbered r) b.1)) em in omega (arith, a, z))
    go true false em et (inl z) = inl (let a : one_when (is_mine lent b.0 && same_region (Numbered r) b.1) ≡ 0 =
        ap (λ x. one_when (x && same_region (Numbered r) b.1)) em ∙ ap one_when et in omega (arith, a, z))

-- a name that is not the frame's own is the one that it was lent
lent_name : (lent : Class) (k : ℕ) → is_mine lent k ≡ false → lent ≡ Name k
lent_name NoClass k e = cc
lent_name Global k e = cc
lent_name (Name j) k e = ap Name (sym (eq_of k j (go (nat_eq k j) e)))
  where
    go : (b : Bool) → not b ≡ false → b ≡ true
    go true e = refl
    go false e = cc

-- a name that denotes an unprotected region has a holding name in this frame or below
pub binds_held : (base : List Region) (f : RegionEnvironment) (fs : List RegionEnvironment) (k r : ℕ) → AreUnique f.names
    → IsLentBelow base f fs → guards base fs (Numbered r) ≡ false → bound f.names k ≡ Some (Numbered r)
    → 1 ≤ held r (f ∷ fs)
binds_held base f fs k r u l g e =
    split (is_mine f.lent k) (λ m. mine (bound_held f.lent r f.names k u e m))
    (λ n. below (l k r (lent_name f.lent k n) e g))
  where
    mine : 1 ≤ held_in f.lent r f.names → 1 ≤ held r (f ∷ fs)
    mine h = omega arith

    below : 1 ≤ held r fs → 1 ≤ held r (f ∷ fs)
    below h = omega arith

-- stakes without those in r: the others stay, and r has none
pub in_without : (r q : ℕ) (stakes : List ℕ) → nat_eq r q ≡ false → is_in q (without r stakes) ≡ is_in q stakes
in_without r q [] f = refl
in_without r q (s ∷ ss) f = grind (arith, in_without r q ss f)

pub not_in_without : (r : ℕ) (stakes : List ℕ) → is_in r (without r stakes) ≡ false
not_in_without r [] = refl
not_in_without r (s ∷ ss) = grind (arith, not_in_without r ss)

-- an `or` that is false
pub or_left : (a b : Bool) → (a || b) ≡ false → a ≡ false
or_left true b e = e
or_left false b e = refl

-- what is in the base is guarded at every frame
base_guards : (base : List Region) (fs : List RegionEnvironment) (r : Region) → list_any (same_region r) base ≡ true
    → guards base fs r ≡ true
base_guards base [] r e = e
base_guards base (f ∷ fs) r e = or_there (list_any (same_region r) f.protections) (guards base fs r)
    (base_guards base fs r e)

-- if no frame holds r, and none protects it, then no frame names it, not even for a result; so the stake in it may end
pub names_below : (base : List Region) (r : ℕ) (stakes : List ℕ) (fs : List RegionEnvironment) → AreUniqueIn fs
    → AreLentBelow base fs → guards base fs (Numbered r) ≡ false → held r fs ≡ 0 → AreStaked stakes fs
    → AreStaked (without r stakes) fs
names_below base r stakes [] u l g z s = tt
names_below base r stakes (f ∷ fs) u l g z s = (
  here,
  protections,
  names_below base r stakes fs u.1 l.1 gs (omega arith)
      s.2,
)
  where
    gs : guards base fs (Numbered r) ≡ false
    gs = or_right (list_any (same_region (Numbered r)) f.protections) (guards base fs (Numbered r)) g

    here : NamesStaked (without r stakes) f.names
    here k q e = split (nat_eq r q) (λ t. absurd (clash t)) (λ n. in_without r q stakes n ∙ s.0 k q e)
      where
        clash : nat_eq r q ≡ true → ⊥
        clash t =
            let e' : bound f.names k ≡ Some (Numbered r) = e ∙ ap (λ x. Some (Numbered x)) (sym (eq_of r q t)) in
            let h = binds_held base f fs k r u.0 l.0 gs e' in
            omega (arith, h, z)

    protections : RegionsStaked (without r stakes) f.protections
    protections q e = split (nat_eq r q) (λ t. absurd (clash t)) (λ n. in_without r q stakes n ∙ s.1 q e)
      where
        clash : nat_eq r q ≡ true → ⊥
        clash t =
            let no : list_any (same_region (Numbered r)) f.protections ≡ false = or_left _ _ g in
            let yes' : list_any (same_region (Numbered r)) f.protections ≡ true =
            subst (λ x. list_any (same_region (Numbered x)) f.protections ≡ true) (sym (eq_of r q t)) e in
            true≢false (sym yes' ∙ no)

-- ---- steps of the goroutine: its top frame has other names

-- the top frame loses a name, and keeps its count of every region that is not protected below
pub core_unbound : (stakes : List ℕ) (base : List Region) (f : RegionEnvironment) (fs : List RegionEnvironment) (k : ℕ)
    → ((r : ℕ) → guards base fs (Numbered r) ≡ false → held_in f.lent r (unbind f.names k) ≡ held_in f.lent r f.names)
    → NameInvariant stakes base (f ∷ fs) → NameInvariant stakes base (record f { names = unbind f.names k } ∷ fs)
core_unbound stakes base f fs k keeps c =
    record {
      unique = (unique_unbind f.names k c.unique.0, c.unique.1);
      staked = ((λ j r e. c.staked.0 j r (unbound_was f.names k j (Numbered r) e)), c.staked.1, c.staked.2);
      based = c.based;
      once = λ r e. ((λ g. ap (λ x. x + held r fs) (keeps r g) ∙ (c.once r e).0 g), (c.once r e).1);
      lent = ((λ j r l e g. c.lent.0 j r l (unbound_was f.names k j (Numbered r) e) g), c.lent.1);
    }
  where
    unbound_was : (names : Bindings) (k j : ℕ) (r : Region) → bound (unbind names k) j ≡ Some r → bound names j ≡ Some r
    unbound_was names k j r e = split (nat_eq k j) (λ t. absurd (clash t))
        (λ n. sym (bound_unbind_other names k j n) ∙ e)
      where
        clash : nat_eq k j ≡ true → ⊥
        clash t = let n : bound (unbind names k) j ≡ None =
            subst (λ x. bound (unbind names k) x ≡ None) (eq_of k j t) (bound_unbind names k) in cc

-- a name is removed whose region is protected below, or is Global: its frame is not counted for that region, so the count stays
pub core_kept : (stakes : List ℕ) (base : List Region) (f : RegionEnvironment) (fs : List RegionEnvironment) (k : ℕ) (q : Region)
    → bound f.names k ≡ Some q → ((r : ℕ) → q ≡ Numbered r → guards base fs (Numbered r) ≡ true)
    → NameInvariant stakes base (f ∷ fs) → NameInvariant stakes base (record f { names = unbind f.names k } ∷ fs)
core_kept stakes base f fs k q e g c = core_unbound stakes base f fs k
    (λ r u. keeps r u (same_region (Numbered r) q) refl) c
  where
    is_same : (r : ℕ) (p : Region) → same_region (Numbered r) p ≡ true → p ≡ Numbered r
    is_same r GlobalRegion e = cc
    is_same r (Numbered p) e = ap Numbered (sym (eq_of r p e))

    keeps : (r : ℕ) → guards base fs (Numbered r) ≡ false → (b : Bool) → same_region (Numbered r) q ≡ b
        → held_in f.lent r (unbind f.names k) ≡ held_in f.lent r f.names
    keeps r u true s = absurd (true≢false (sym (g r (is_same r q s)) ∙ u))
    keeps r u false s =
        let h = held_unbind f.lent r f.names k q c.unique.0 e in
        let z : one_when (is_mine f.lent k && same_region (Numbered r) q) ≡ 0 =
        ap (λ x. one_when (is_mine f.lent k && x)) s ∙ none_if (is_mine f.lent k) in
        omega (arith, h, z)

-- the last removal: the goroutine's stake ends with its only holding name
pub core_removed : (stakes : List ℕ) (base : List Region) (f : RegionEnvironment) (fs : List RegionEnvironment) (k r : ℕ)
    → bound f.names k ≡ Some (Numbered r) → is_mine f.lent k ≡ true → guards base (f ∷ fs) (Numbered r) ≡ false
    → NameInvariant stakes base (f ∷ fs) → NameInvariant (without r stakes) base (record f { names = unbind f.names k } ∷ fs)
core_removed stakes base f fs k r e m g c =
    record {
      unique = (unique_unbind f.names k c.unique.0, c.unique.1);
      staked = (names, protections, names_below base r stakes fs c.unique.1 c.lent.1 gs none_below c.staked.2);
      based = based;
      once = once;
      lent = ((λ j p l e' u. c.lent.0 j p l (was j (Numbered p) e') u), c.lent.1);
    }
  where
    gs : guards base fs (Numbered r) ≡ false
    gs = or_right (list_any (same_region (Numbered r)) f.protections) (guards base fs (Numbered r)) g

    here : is_in r stakes ≡ true
    here = c.staked.0 k r e

    all : held r (f ∷ fs) ≡ 1
    all = (c.once r here).0 gs

    top : held_in f.lent r f.names ≡ 1 + held_in f.lent r (unbind f.names k)
    top =
        let h = held_unbind f.lent r f.names k (Numbered r) c.unique.0 e in
        let one : one_when (is_mine f.lent k && same_region (Numbered r) (Numbered r)) ≡ 1 =
        ap (λ x. one_when (x && same_region (Numbered r) (Numbered r))) m ∙ ap one_when (same_self r) in
        omega (arith, h, one)

    none_below : held r fs ≡ 0
    none_below = omega (arith, all, top)

    none_left : held_in f.lent r (unbind f.names k) ≡ 0
    none_left = omega (arith, all, top)

    was : (j : ℕ) (q : Region) → bound (unbind f.names k) j ≡ Some q → bound f.names j ≡ Some q
    was j q e' = split (nat_eq k j) (λ t. absurd (clash t)) (λ n. sym (bound_unbind_other f.names k j n) ∙ e')
      where
        clash : nat_eq k j ≡ true → ⊥
        clash t = let n : bound (unbind f.names k) j ≡ None =
            subst (λ x. bound (unbind f.names k) x ≡ None) (eq_of k j t) (bound_unbind f.names k) in cc

    no_other : (j : ℕ) → bound (unbind f.names k) j ≡ Some (Numbered r) → ⊥
    no_other j e' =
        split (is_mine f.lent j) (λ t. mine (bound_held f.lent r (unbind f.names k) j
        (unique_unbind f.names k c.unique.0) e' t))
        (λ n. lends (c.lent.0 j r (lent_name f.lent j n) (was j (Numbered r) e') gs))
      where
        mine : 1 ≤ held_in f.lent r (unbind f.names k) → ⊥
        mine h = omega (arith, h, none_left)

        lends : 1 ≤ held r fs → ⊥
        lends h = omega (arith, h, none_below)

    names : NamesStaked (without r stakes) (unbind f.names k)
    names j q e' = split (nat_eq r q) (λ t. absurd (no_other j (e' ∙ ap (λ x. Some (Numbered x)) (sym (eq_of r q t)))))
        (λ n. in_without r q stakes n ∙ c.staked.0 j q (was j (Numbered q) e'))

    protections : RegionsStaked (without r stakes) f.protections
    protections q e' = split (nat_eq r q) (λ t. absurd (clash t)) (λ n. in_without r q stakes n ∙ c.staked.1 q e')
      where
        clash : nat_eq r q ≡ true → ⊥
        clash t =
            let there : list_any (same_region (Numbered r)) f.protections ≡ true =
            subst (λ x. list_any (same_region (Numbered x)) f.protections ≡ true) (sym (eq_of r q t)) e' in
            true≢false (sym there ∙ or_left (list_any (same_region (Numbered r)) f.protections)
            (guards base fs (Numbered r)) g)

    based : RegionsStaked (without r stakes) base
    based q e' = split (nat_eq r q) (λ t. absurd (clash t)) (λ n. in_without r q stakes n ∙ c.based q e')
      where
        clash : nat_eq r q ≡ true → ⊥
        clash t =
            let there : list_any (same_region (Numbered r)) base ≡ true =
            subst (λ x. list_any (same_region (Numbered x)) base ≡ true) (sym (eq_of r q t)) e' in
            true≢false (sym (base_guards base fs (Numbered r) there) ∙ gs)

    once : (q : ℕ) → is_in q (without r stakes) ≡ true → IsHeldOnce q base (record f { names = unbind f.names k } ∷ fs)
    once q e' = split (nat_eq r q) (λ t. absurd (clash t)) (λ n. other n)
      where
        clash : nat_eq r q ≡ true → ⊥
        clash t = true≢false (sym e' ∙ subst (λ x. is_in x (without r stakes) ≡ false) (eq_of r q t)
            (not_in_without r stakes))

        other : nat_eq r q ≡ false → IsHeldOnce q base (record f { names = unbind f.names k } ∷ fs)
        other n =
            let o = c.once q (sym (in_without r q stakes n) ∙ e') in
            ((λ u. ap (λ x. x + held q fs) (keeps n) ∙ o.0 u), o.1)
          where
            keeps : nat_eq r q ≡ false → held_in f.lent q (unbind f.names k) ≡ held_in f.lent q f.names
            keeps n =
                let h = held_unbind f.lent q f.names k (Numbered r) c.unique.0 e in
                let z : one_when (is_mine f.lent k && same_region (Numbered q) (Numbered r)) ≡ 0 =
                ap (λ x. one_when (is_mine f.lent k && x)) (nat_ne_sym r q n) ∙ none_if (is_mine f.lent k) in
                omega (arith, h, z)

-- protections of the top frame begin and end: they cut off the count for the frames above it, and there are none
pub core_protected : (stakes : List ℕ) (base : List Region) (f : RegionEnvironment) (fs : List RegionEnvironment)
    (protections : List Region) → RegionsStaked stakes protections → NameInvariant stakes base (f ∷ fs)
    → NameInvariant stakes base (record f { protections = protections } ∷ fs)
core_protected stakes base f fs protections h c = record
    { unique = c.unique; staked = (c.staked.0, h, c.staked.2); based = c.based; once = c.once; lent = c.lent }

-- a frame without holding names goes, as at a return
pub core_popped : (stakes : List ℕ) (base : List Region) (f : RegionEnvironment) (fs : List RegionEnvironment)
    → ((k : ℕ) → is_mine f.lent k ≡ true → bound f.names k ≡ None) → NameInvariant stakes base (f ∷ fs) → NameInvariant stakes base fs
core_popped stakes base f fs empty c =
    record {
      unique = c.unique.1;
      staked = c.staked.2;
      based = c.based;
      once =
          λ r e. split (guards base fs (Numbered r)) (λ g. (c.once r e).1 g)
          (λ g. below fs r g (counted r g (c.once r e)));
      lent = c.lent.1;
    }
  where
    nothing : (r : ℕ) → held_in f.lent r f.names ≡ 0
    nothing r = go (found f.lent r f.names c.unique.0)
      where
        go : (held_in f.lent r f.names ≡ 0) ⊎ ((k : ℕ) × (bound f.names k ≡ Some (Numbered r))
            × (is_mine f.lent k ≡ true)) → held_in f.lent r f.names ≡ 0
        go (inl z) = z
        go (inr (k, e, m)) = let n = empty k m in cc

    counted : (r : ℕ) → guards base fs (Numbered r) ≡ false → IsHeldOnce r base (f ∷ fs) → held r fs ≡ 1
    counted r g o = let h = o.0 g in let z = nothing r in omega (arith, h, z)

    below : (fs : List RegionEnvironment) (r : ℕ) → guards base fs (Numbered r) ≡ false → held r fs ≡ 1 → IsHeldOnce r base fs
    below [] r g h = absurd (omega (arith, h))
    below (d ∷ ds) r g h = (
      (λ u. h),
      (λ u. absurd (true≢false
          (sym (or_there (list_any (same_region (Numbered r)) d.protections) (guards base ds (Numbered r)) u) ∙ g))),
    )

-- the goroutine has a stake in what it protects, and in what it holds
guards_staked : (stakes : List ℕ) (base : List Region) (fs : List RegionEnvironment) (r : ℕ) → AreStaked stakes fs
    → RegionsStaked stakes base → guards base fs (Numbered r) ≡ true → is_in r stakes ≡ true
guards_staked stakes base [] r s b g = b r g
guards_staked stakes base (f ∷ fs) r s b g = go (list_any (same_region (Numbered r)) f.protections) refl g
    (guards_staked stakes base fs r s.2 b)
  where
    go : (x : Bool) → list_any (same_region (Numbered r)) f.protections ≡ x → (x || guards base fs (Numbered r)) ≡ true
        → (guards base fs (Numbered r) ≡ true → is_in r stakes ≡ true) → is_in r stakes ≡ true
    go true e g next = s.1 r e
    go false e g next = next g

unstaked_unheld : (stakes : List ℕ) (fs : List RegionEnvironment) (r : ℕ) → AreUniqueIn fs → AreStaked stakes fs
    → is_in r stakes ≡ false → held r fs ≡ 0
unstaked_unheld stakes [] r u s n = refl
unstaked_unheld stakes (f ∷ fs) r u s n = go (found f.lent r f.names u.0) (unstaked_unheld stakes fs r u.1 s.2 n)
  where
    go : (held_in f.lent r f.names ≡ 0) ⊎ ((k : ℕ) × (bound f.names k ≡ Some (Numbered r)) × (is_mine f.lent k ≡ true))
        → held r fs ≡ 0 → held_in f.lent r f.names + held r fs ≡ 0
    go (inl z) h = omega (arith, z, h)
    go (inr (k, e, m)) h = absurd (true≢false (sym (s.0 k r e) ∙ n))

-- a stake more
in_more : (r q : ℕ) (stakes : List ℕ) → is_in q stakes ≡ true → is_in q (r ∷ stakes) ≡ true
in_more r q stakes e = go (nat_eq q r)
  where
    go : (b : Bool) → (if b then true else is_in q stakes) ≡ true
    go true = refl
    go false = e

staked_more : (r : ℕ) (stakes : List ℕ) (fs : List RegionEnvironment) → AreStaked stakes fs → AreStaked (r ∷ stakes) fs
staked_more r stakes [] s = tt
staked_more r stakes (f ∷ fs) s = (
  (λ k q e. in_more r q stakes (s.0 k q e)),
  (λ q e. in_more r q stakes (s.1 q e)),
  staked_more r stakes fs s.2,
)

-- a region is created under an own name that denotes none; no name denotes the new number yet, so its count becomes one
pub core_created : (stakes : List ℕ) (base : List Region) (f : RegionEnvironment) (fs : List RegionEnvironment) (k r : ℕ)
    → bound f.names k ≡ None → is_mine f.lent k ≡ true → is_in r stakes ≡ false → NameInvariant stakes base (f ∷ fs)
    → NameInvariant (r ∷ stakes) base (record f { names = (k, Numbered r) ∷ unbind f.names k } ∷ fs)
core_created stakes base f fs k r e m fresh c =
    record {
      unique = ((bound_unbind f.names k, unique_unbind f.names k c.unique.0), c.unique.1);
      staked = (names, (λ q e'. in_more r q stakes (c.staked.1 q e')), staked_more r stakes fs c.staked.2);
      based = λ q e'. in_more r q stakes (c.based q e');
      once = once;
      lent = (lent, c.lent.1);
    }
  where
    same : unbind f.names k ≡ f.names
    same = unbind_none f.names k e

    unguarded : guards base fs (Numbered r) ≡ true → ⊥
    unguarded g = true≢false (sym (guards_staked stakes base fs r c.staked.2 c.based g) ∙ fresh)

    none : held_in f.lent r f.names + held r fs ≡ 0
    none = unstaked_unheld stakes (f ∷ fs) r c.unique c.staked fresh

    names : NamesStaked (r ∷ stakes) ((k, Numbered r) ∷ unbind f.names k)
    names j q e' = go (nat_eq k j) e'
      where
        number : Some (Numbered r) ≡ Some (Numbered q) → r ≡ q
        number e = cc

        self : (x : ℕ) → r ≡ x → is_in x (r ∷ stakes) ≡ true
        self x e = ap (λ y. if y then true else is_in x stakes) (subst (λ y. nat_eq y r ≡ true) e (nat_eq_refl r))

        go : (b : Bool) → (if b then Some (Numbered r) else bound (unbind f.names k) j) ≡ Some (Numbered q)
            → is_in q (r ∷ stakes) ≡ true
        go true e'' = self q (number e'')
        go false e'' = in_more r q stakes (c.staked.0 j q (ap (λ x. bound x j) (sym same) ∙ e''))

    counts : (q : ℕ) → held_in f.lent q ((k, Numbered r) ∷ unbind f.names k)
        ≡ one_when (is_mine f.lent k && nat_eq q r) + held_in f.lent q f.names
    counts q = ap (λ x. one_when (is_mine f.lent k && nat_eq q r) + held_in f.lent q x) same

    once : (q : ℕ) → is_in q (r ∷ stakes) ≡ true → IsHeldOnce q base
        (record f { names = (k, Numbered r) ∷ unbind f.names k } ∷ fs)
    once q e' = go (nat_eq q r) refl e'
      where
        go : (b : Bool) → nat_eq q r ≡ b → (if b then true else is_in q stakes) ≡ true
            → IsHeldOnce q base (record f { names = (k, Numbered r) ∷ unbind f.names k } ∷ fs)
        go true t e'' =
            ((λ u. one u), (λ g. absurd (unguarded (ap (λ x. guards base fs (Numbered x)) (sym (eq_of q r t)) ∙ g))))
          where
            one : guards base fs (Numbered q) ≡ false → held q
                (record f { names = (k, Numbered r) ∷ unbind f.names k } ∷ fs) ≡ 1
            one u =
                let a = counts q in
                let b : one_when (is_mine f.lent k && nat_eq q r) ≡ 1 =
                ap (λ x. one_when (x && nat_eq q r)) m ∙ ap one_when t in
                let z : held_in f.lent q f.names + held q fs ≡ 0 =
                subst (λ x. held_in f.lent x f.names + held x fs ≡ 0) (sym (eq_of q r t)) none in
                omega (arith, a, b, z)
        go false n e'' =
            let o = c.once q e'' in
            ((λ u. other (o.0 u)), o.1)
          where
            other : held q (f ∷ fs) ≡ 1 → held q (record f { names = (k, Numbered r) ∷ unbind f.names k } ∷ fs) ≡ 1
            other h =
                let a = counts q in
                let b : one_when (is_mine f.lent k && nat_eq q r) ≡ 0 =
                ap (λ x. one_when (is_mine f.lent k && x)) n ∙ none_if (is_mine f.lent k) in
                omega (arith, a, b, h)

    lent : IsLentBelow base (record f { names = (k, Numbered r) ∷ unbind f.names k }) fs
    lent j q l e' u = go (nat_eq k j) refl e'
      where
        named : (lent : Class) (j : ℕ) → lent ≡ Name j → is_mine lent j ≡ false
        named lent j e = ap (λ x. is_mine x j) e ∙ ap (λ x. not x) (nat_eq_refl j)

        go : (b : Bool) → nat_eq k j ≡ b → (if b then Some (Numbered r) else bound (unbind f.names k) j)
            ≡ Some (Numbered q) → 1 ≤ held q fs
        go true t e'' = absurd (true≢false (sym m ∙ ap (is_mine f.lent) (eq_of k j t) ∙ named f.lent j l))
        go false n e'' = c.lent.0 j q l (ap (λ x. bound x j) (sym same) ∙ e'') u

-- what is asked of a call: g is the callee's environment, and `left` the caller's names without the names ks that it gives
pub record Passes (base : List Region) (f : RegionEnvironment) (fs : List RegionEnvironment) (ks : List ℕ) (g : RegionEnvironment)
    (left : Bindings) : Type 0 where
  pub without_protection : g.protections ≡ []
  pub unique : AreUnique g.names
  pub unique_left : AreUnique left
  pub left_was : (j : ℕ) (q : Region) → bound left j ≡ Some q → bound f.names j ≡ Some q
  pub came : (j q : ℕ) → bound g.names j ≡ Some (Numbered q) → (k : ℕ) × (bound f.names k ≡ Some (Numbered q))
  pub conserved : (r : ℕ) → guards base (f ∷ fs) (Numbered r) ≡ false → held_in g.lent r g.names + held_in f.lent r left
      ≡ held_in f.lent r f.names
  pub guarded : (r : ℕ) → guards base fs (Numbered r) ≡ false → guards base (f ∷ fs) (Numbered r) ≡ true
      → held_in f.lent r left ≡ held_in f.lent r f.names
  pub lends : (m r : ℕ) → g.lent ≡ Name m → bound g.names m ≡ Some (Numbered r) → guards base (f ∷ fs) (Numbered r)
      ≡ false → 1 ≤ held_in f.lent r left + held r fs

-- the call of a function: its frame comes on top of the caller's, which has lost what it gave
pub core_called : (stakes : List ℕ) (base : List Region) (f : RegionEnvironment) (fs : List RegionEnvironment) (ks : List ℕ)
    (g : RegionEnvironment) (left : Bindings) → Passes base f fs ks g left → NameInvariant stakes base (f ∷ fs)
    → NameInvariant stakes base (g ∷ record f { names = left } ∷ fs)
core_called stakes base f fs ks g left p c =
    record {
      unique = (p.unique, (p.unique_left, c.unique.1));
      staked = (names, protections, ((λ j q e. c.staked.0 j q (p.left_was j (Numbered q) e)), c.staked.1, c.staked.2));
      based = c.based;
      once = once;
      lent = (
        (λ m r l e u. p.lends m r l e u),
        (
          (λ j q l e u. c.lent.0 j q l (p.left_was j (Numbered q) e) u),
          c.lent.1,
        ),
      );
    }
  where
    names : NamesStaked stakes g.names
    names j q e = let k = p.came j q e in c.staked.0 k.0 q k.1

    protections : RegionsStaked stakes g.protections
    protections q e = let e' : list_any (same_region (Numbered q)) [] ≡ true =
        subst (λ x. list_any (same_region (Numbered q)) x ≡ true) p.without_protection e in absurd (true≢false (sym e'))

    once : (r : ℕ) → is_in r stakes ≡ true → IsHeldOnce r base (g ∷ record f { names = left } ∷ fs)
    once r e =
        ((λ u. free u), (λ s. ((λ u. kept s u), (c.once r e).1)))
      where
        free : guards base (f ∷ fs) (Numbered r) ≡ false → held_in g.lent r g.names +
            (held_in f.lent r left + held r fs) ≡ 1
        free u =
            let h = (c.once r e).0 (or_right (list_any (same_region (Numbered r)) f.protections)
            (guards base fs (Numbered r)) u) in
            let k = p.conserved r u in
            omega (arith, h, k)

        kept : guards base (f ∷ fs) (Numbered r) ≡ true → guards base fs (Numbered r) ≡ false
            → held_in f.lent r left + held r fs ≡ 1
        kept s u = ap (λ x. x + held r fs) (p.guarded r u s) ∙ (c.once r e).0 u

-- the end of a base entry, after all frames are gone
pub core_unbased : (stakes : List ℕ) (base left : List Region) (r : ℕ)
    → ((q : ℕ) → nat_eq r q ≡ false → list_any (same_region (Numbered q)) base
    ≡ list_any (same_region (Numbered q)) left) → list_any (same_region (Numbered r)) left ≡ false → NameInvariant stakes base []
    → NameInvariant (without r stakes) left []
core_unbased stakes base left r others gone c =
    record {
      unique = tt;
      staked = tt;
      based = λ q e. split (nat_eq r q) (λ t. absurd (true≢false
          (sym (subst (λ x. list_any (same_region (Numbered x)) left ≡ true) (sym (eq_of r q t)) e) ∙ gone)))
          (λ n. in_without r q stakes n ∙ c.based q (others q n ∙ e));
      once = λ q e. split (nat_eq r q) (λ t. absurd (true≢false
          (sym e ∙ subst (λ x. is_in x (without r stakes) ≡ false) (eq_of r q t) (not_in_without r stakes))))
          (λ n. sym (others q n) ∙ c.once q (sym (in_without r q stakes n) ∙ e));
      lent = tt;
    }

-- a child of a `go`: what it is given more than once is its base, and the rest has one name
pub core_child : (stakes : List ℕ) (base : List Region) (f : RegionEnvironment) → AreUnique f.names → f.protections ≡ []
    → ((k : ℕ) → is_mine f.lent k ≡ true) → NamesStaked stakes f.names → RegionsStaked stakes base
    → ((r : ℕ) → is_in r stakes ≡ true → list_any (same_region (Numbered r)) base ≡ false → held_in f.lent r f.names
    ≡ 1) → NameInvariant stakes base (f ∷ [])
core_child stakes base f u s m n b h =
    record {
      unique = (u, tt);
      staked = (
        n,
        (λ r e. absurd (true≢false (sym (subst (λ x. list_any (same_region (Numbered r)) x ≡ true) s e)))),
        tt,
      );
      based = b;
      once = λ r e. ((λ g. let x = h r e g in omega (arith, x)), (λ g. g));
      lent = ((λ k r l e g. absurd (true≢false (sym (m k) ∙ named f.lent k l))), tt);
    }
  where
    named : (lent : Class) (j : ℕ) → lent ≡ Name j → is_mine lent j ≡ false
    named lent j e = ap (λ x. is_mine x j) e ∙ ap (λ x. not x) (nat_eq_refl j)
