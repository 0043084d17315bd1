-- What the code keeps of a goroutine shows the machine's holder after each step with a region, if it showed it before: one lemma for
-- each kind of step.
use Rattle.std.proofs.Common.{◌≡◌, ℕ, zero, suc, ◌+◌, ◌≤◌, Bool, true, false, ◌||◌, List, [], ◌∷◌, map, Option, Some}
use Rattle.std.proofs.Common.{None, refl, sym, ap, ◌∙◌, subst, nat_eq, nat_lt, if◌then◌else◌, arith, true≢false}
use Rattle.std.specs.List.{list_any}
use Rattle.rgo_region_machine.specs.declared.regions.Region.{Region}
use Rattle.rgo_region_machine.specs.declared.regions.Region.TheVariants.{Global as GlobalRegion, Numbered}
use Rattle.rgo_region_machine.specs.Duties.{guards, with_protection, without_protection}
use Rattle.rgo_region_machine.specs.Objects.{fill_of}
use Rattle.rgo_region_machine.specs.Regions.{Bindings, bound, removed_once, same_region, unbind, without}
use Rattle.rgo_region_machine.specs.States as spec
use Rattle.rgo_region_machine.specs.States.{Duty, RegionEnvironment, top_names, with_top}
use Rattle.rgo_sound.proofs.duties.Attends.{same_reflexive}
use Rattle.rgo_sound.proofs.names.Core.{bound_unbind, bound_unbind_other, in_without, not_in_without}
use Rattle.rgo_sound.proofs.Tests.{eq_of, split}
use Rattle.rgo_sound.specs.Invariant.{times}
use Rattle.rgo_sound.specs.Stakes.{is_in, one_when}
use Rattle.rgo_sound.proofs.duties.Moves.{times_removed}
use Rattle.rgo_region_interpreter.specs.declared.holders.Holder.{Holder}
use Rattle.rgo_region_interpreter.specs.Holders.{HolderShows, Binds, Unbinds, HolderProtects, Unprotects, HolderLeaves, HolderEndsBase, FrameNames, Renames}
use Rattle.rgo_region_interpreter.specs.Holders.{SameBindings, bound_in, bound_with, bound_without, fill_in, frame_names_of, is_region_number, newest_frame_names}
use Rattle.rgo_region_interpreter.specs.Holders.{protections_in, protection_count, region_in, times_region}

-- ---- numbers

positive : (n : ℕ) → 1 ≤ n → nat_lt 0 n ≡ true
positive n p = grind arith

positive_sum : (a b : ℕ) → nat_lt 0 (a + b) ≡ (nat_lt 0 a || nat_lt 0 b)
positive_sum zero b = ap (nat_lt 0) (let e : zero + b ≡ b = omega arith in e)
positive_sum (suc a) b =
    positive (suc a + b) (omega arith) ∙ sym (ap (λ x. x || nat_lt 0 b) (positive (suc a) (omega arith)))

pub flip : (x y : ℕ) → nat_eq x y ≡ nat_eq y x
flip x y = go (nat_eq x y) refl
  where
    turned : (b : Bool) → nat_eq x y ≡ b → nat_eq y x ≡ b
    turned true h = grind arith
    turned false h = grind arith

    go : (b : Bool) → nat_eq x y ≡ b → nat_eq x y ≡ nat_eq y x
    go b e = e ∙ sym (turned b e)

-- ---- what it says

-- what a name denotes
pub region_shown : (c : Holder) (h : spec.Holder) (k : ℕ) → HolderShows c h
    → region_in c k ≡ bound (top_names h.environments) k
region_shown c h k shows = go (frame_names_of c) h.environments shows.names
  where
    go : (ns : List FrameNames) (es : List RegionEnvironment) → SameBindings ns es → bound_in (newest_frame_names ns) k ≡ bound (top_names es) k
    go [] [] s = refl
    go [] (e ∷ es) s = absurd s
    go (n ∷ ns) [] s = absurd s
    go (n ∷ ns) (e ∷ es) s = s.0 k

times_any : (q : Region) (rs : List Region) → nat_lt 0 (times_region q rs) ≡ list_any (same_region q) rs
times_any q [] = refl
times_any q (r ∷ rs) =
    positive_sum (one_when (same_region q r)) (times_region q rs)
    ∙ ap (λ x. nat_lt 0 (one_when (same_region q r)) || x) (times_any q rs)
    ∙ ap (λ x. x || list_any (same_region q) rs) (one (same_region q r))
  where
    one : (b : Bool) → nat_lt 0 (one_when b) ≡ b
    one true = refl
    one false = refl

any_protection : (q : Region) (es : List RegionEnvironment) (base : List Region) → nat_lt 0 (protection_count q es base)
    ≡ guards base es q
any_protection q [] base = times_any q base
any_protection q (e ∷ es) base =
    positive_sum (times_region q e.protections) (protection_count q es base)
    ∙ ap (λ x. x || nat_lt 0 (protection_count q es base)) (times_any q e.protections)
    ∙ ap (λ x. list_any (same_region q) e.protections || x) (any_protection q es base)

-- whether it protects a region
pub guards_shown : (c : Holder) (h : spec.Holder) (r : ℕ) → HolderShows c h
    → nat_lt 0 (protections_in c r) ≡ guards h.base h.environments (Numbered r)
guards_shown c h r shows = ap (nat_lt 0) (shows.protections r) ∙ any_protection (Numbered r) h.environments h.base

-- ---- names

pub top_protections : (q : Region) (es : List RegionEnvironment) (names : Bindings) (base : List Region)
    → protection_count q (with_top es names) base ≡ protection_count q es base
top_protections q [] names base = refl
top_protections q (e ∷ es) names base = refl

protected_names : (ns : List FrameNames) (es : List RegionEnvironment) (q : Region) → SameBindings ns es
    → SameBindings ns (with_protection es q)
protected_names [] [] q s = tt
protected_names [] (e ∷ es) q s = absurd s
protected_names (n ∷ ns) [] q s = absurd s
protected_names (n ∷ ns) (e ∷ es) q s = (s.0, s.1)

unprotected_names : (ns : List FrameNames) (es : List RegionEnvironment) (q : Region) → SameBindings ns es
    → SameBindings ns (without_protection es q)
unprotected_names [] [] q s = tt
unprotected_names [] (e ∷ es) q s = absurd s
unprotected_names (n ∷ ns) [] q s = absurd s
unprotected_names (n ∷ ns) (e ∷ es) q s = (s.0, s.1)

-- the newest names are others
pub renamed : (c d : Holder) (change : FrameNames → ℕ → Option Region) (names : Bindings) (es : List RegionEnvironment)
    → SameBindings (frame_names_of c) es → Renames c d change
    → ((n : FrameNames) → ((k : ℕ) → bound_in n k ≡ bound (top_names es) k) → (k : ℕ) → change n k ≡ bound names k)
    → (e : RegionEnvironment) (below : List RegionEnvironment) → es ≡ e ∷ below → SameBindings (frame_names_of d) (with_top es names)
renamed c d change names es same renames fits e below is =
    subst (λ l. SameBindings (frame_names_of d) (with_top l names)) (sym is)
    (go (frame_names_of c) refl (subst (SameBindings (frame_names_of c)) is same))
  where
    go : (ns : List FrameNames) → frame_names_of c ≡ ns → SameBindings ns (e ∷ below)
        → SameBindings (frame_names_of d) (record e { names = names } ∷ below)
    go [] q s = absurd s
    go (n ∷ ns) q s =
        let x = renames.renamed n ns q in
        subst (λ l. SameBindings l (record e { names = names } ∷ below)) (sym x.1) (
          λ k. x.2 k ∙ fits n (λ j. s.0 j ∙ ap (λ l. bound (top_names l) j) (sym is)) k,
          s.1,
        )

-- ---- protections

pub times_are : (q : Region) (rs : List Region) → times q rs ≡ times_region q rs
times_are q [] = refl
times_are q (r ∷ rs) = ap (λ n. one_when (same_region q r) + n) (times_are q rs)

number_is : (q : Region) (r : ℕ) → one_when (is_region_number q r) ≡ one_when (same_region (Numbered r) q)
number_is GlobalRegion r = refl
number_is (Numbered p) r = ap one_when (flip p r)

based : (q : Region) (es : List RegionEnvironment) (r : Region) (rs : List Region) → protection_count q es (r ∷ rs)
    ≡ one_when (same_region q r) + protection_count q es rs
based q [] r rs = refl
based q (e ∷ es) r rs = let b = based q es r rs in omega (arith, b)

-- ---- steps

module _ (c d : Holder) (h : spec.Holder) (shows : HolderShows c h) (ds : List Duty) where
  module _ (e : RegionEnvironment) (es : List RegionEnvironment) (there : h.environments ≡ e ∷ es) where
    pub create_shown : (k r : ℕ) → Binds c d k (Numbered r) → fill_in c (Numbered r) ≡ fill_of h.fills (Numbered r)
        → HolderShows d (record h {
          stakes = r ∷ h.stakes;
          environments = with_top h.environments ((k, Numbered r) ∷ unbind (top_names h.environments) k);
          duties = ds;
        })
    create_shown k r binds fills = record {
      names = renamed c d (λ names j. bound_with names k (Numbered r) j)
          ((k, Numbered r) ∷ unbind (top_names h.environments) k) h.environments shows.names binds fits e es there;
      protections = λ q. binds.kept.protections q ∙ shows.protections q
          ∙ sym (top_protections (Numbered q) h.environments ((k, Numbered r) ∷ unbind (top_names h.environments) k)
          h.base);
      base = ap (map Numbered) binds.kept.base ∙ shows.base;
      fills = λ q i. binds.kept.fills (Numbered q) ∙ staked q (nat_eq q r) refl i;
      global_fill = binds.kept.fills GlobalRegion ∙ shows.global_fill;
      reserved = binds.kept.reserved ∙ shows.reserved;
      no_offer = shows.no_offer;
    }
      where
        fits : (n : FrameNames) → ((j : ℕ) → bound_in n j ≡ bound (top_names h.environments) j) → (j : ℕ)
            → bound_with n k (Numbered r) j ≡ bound ((k, Numbered r) ∷ unbind (top_names h.environments) k) j
        fits n same j = go (nat_eq k j) refl
          where
            go : (b : Bool) → nat_eq k j ≡ b → (if b then Some (Numbered r) else bound_in n j)
                ≡ (if b then Some (Numbered r) else bound (unbind (top_names h.environments) k) j)
            go true t = refl
            go false f = same j ∙ sym (bound_unbind_other (top_names h.environments) k j f)

        staked : (q : ℕ) (b : Bool) → nat_eq q r ≡ b → (if b then true else is_in q h.stakes) ≡ true
            → fill_in c (Numbered q) ≡ fill_of h.fills (Numbered q)
        staked q true t i =
            subst (λ x. fill_in c (Numbered x) ≡ fill_of h.fills (Numbered x)) (sym (eq_of q r t)) fills
        staked q false f i = shows.fills q i

    pub protect_shown : (q : Region) → HolderProtects c d q
        → HolderShows d (record h { environments = with_protection h.environments q; duties = ds })
    protect_shown q protects = record {
      names = protected_names (frame_names_of d) h.environments q
          (subst (λ l. SameBindings l h.environments) (sym protects.1.names) shows.names);
      protections = λ r.
          let a = protects.0 r in
          let b = shows.protections r in
          let n = number_is q r in
          let f : protection_count (Numbered r) h.environments h.base
          ≡ times_region (Numbered r) e.protections + protection_count (Numbered r) es h.base =
          ap (λ l. protection_count (Numbered r) l h.base) there in
          let g : protection_count (Numbered r) (with_protection h.environments q) h.base
          ≡ (one_when (same_region (Numbered r) q) + times_region (Numbered r) e.protections)
          + protection_count (Numbered r) es h.base =
          ap (λ l. protection_count (Numbered r) (with_protection l q) h.base) there in
          omega (arith, a, b, n, f, g);
      base = ap (map Numbered) protects.1.base ∙ shows.base;
      fills = λ r i. protects.1.fills (Numbered r) ∙ shows.fills r i;
      global_fill = protects.1.fills GlobalRegion ∙ shows.global_fill;
      reserved = protects.1.reserved ∙ shows.reserved;
      no_offer = shows.no_offer;
    }

    pub unprotect_shown : (q : Region) → 1 ≤ times q e.protections → Unprotects c d q
        → HolderShows d (record h { environments = without_protection h.environments q; duties = ds })
    unprotect_shown q some unprotects = record {
      names = unprotected_names (frame_names_of d) h.environments q
          (subst (λ l. SameBindings l h.environments) (sym unprotects.1.names) shows.names);
      protections = λ r.
          let a = unprotects.0 r in
          let b = shows.protections r in
          let n = number_is q r in
          let f : protection_count (Numbered r) h.environments h.base
          ≡ times_region (Numbered r) e.protections + protection_count (Numbered r) es h.base =
          ap (λ l. protection_count (Numbered r) l h.base) there in
          let g : protection_count (Numbered r) (without_protection h.environments q) h.base
          ≡ times_region (Numbered r) (removed_once q e.protections) + protection_count (Numbered r) es h.base =
          ap (λ l. protection_count (Numbered r) (without_protection l q) h.base) there in
          let t = times_removed (Numbered r) q e.protections some in
          let x = times_are (Numbered r) (removed_once q e.protections) in
          let y = times_are (Numbered r) e.protections in
          omega (arith, a, b, n, f, g, t, x, y);
      base = ap (map Numbered) unprotects.1.base ∙ shows.base;
      fills = λ r i. unprotects.1.fills (Numbered r) ∙ shows.fills r i;
      global_fill = unprotects.1.fills GlobalRegion ∙ shows.global_fill;
      reserved = unprotects.1.reserved ∙ shows.reserved;
      no_offer = shows.no_offer;
    }

    pub unbind_shown : (k : ℕ) → Unbinds c d k → HolderShows d (record h {
      environments = with_top h.environments (unbind (top_names h.environments) k);
      duties = ds;
    })
    unbind_shown k unbinds = record {
      names = renamed c d (λ names j. bound_without names k j) (unbind (top_names h.environments) k) h.environments
          shows.names unbinds fits e es there;
      protections = λ q. unbinds.kept.protections q ∙ shows.protections q
          ∙ sym (top_protections (Numbered q) h.environments (unbind (top_names h.environments) k) h.base);
      base = ap (map Numbered) unbinds.kept.base ∙ shows.base;
      fills = λ q i. unbinds.kept.fills (Numbered q) ∙ shows.fills q i;
      global_fill = unbinds.kept.fills GlobalRegion ∙ shows.global_fill;
      reserved = unbinds.kept.reserved ∙ shows.reserved;
      no_offer = shows.no_offer;
    }
      where
        fits : (n : FrameNames) → ((j : ℕ) → bound_in n j ≡ bound (top_names h.environments) j) → (j : ℕ)
            → bound_without n k j ≡ bound (unbind (top_names h.environments) k) j
        fits n same j = go (nat_eq k j) refl
          where
            go : (b : Bool) → nat_eq k j ≡ b → (if b then None else bound_in n j)
                ≡ bound (unbind (top_names h.environments) k) j
            go true t = subst (λ x. None ≡ bound (unbind (top_names h.environments) k) x) (eq_of k j t)
                (sym (bound_unbind (top_names h.environments) k))
            go false f = same j ∙ sym (bound_unbind_other (top_names h.environments) k j f)

  pub leave_shown : (r : ℕ) → HolderLeaves c d r → HolderShows d (record h { stakes = without r h.stakes })
  leave_shown r leaves = record {
    names = subst (λ l. SameBindings l h.environments) (sym leaves.1.names) shows.names;
    protections = λ q. leaves.1.protections q ∙ shows.protections q;
    base = ap (map Numbered) leaves.1.base ∙ shows.base;
    fills = λ q i. leaves.0 (Numbered q) ∙ split (nat_eq r q) (λ t. absurd (gone q (eq_of r q t) i)) (λ f.
        ap (λ b. if b then None else fill_in c (Numbered q)) f ∙ shows.fills q (sym (in_without r q h.stakes f) ∙ i));
    global_fill = leaves.0 GlobalRegion ∙ shows.global_fill;
    reserved = leaves.1.reserved ∙ shows.reserved;
    no_offer = shows.no_offer;
  }
    where
      gone : (q : ℕ) → r ≡ q → is_in q (without r h.stakes) ≡ true → ⊥
      gone q t i = true≢false (sym i ∙ ap (λ x. is_in x (without r h.stakes)) (sym t) ∙ not_in_without r h.stakes)

  pub end_base_shown : (q : ℕ) → HolderEndsBase c d (Some q) → (h.base ≡ Numbered q ∷ map Numbered d.base.items)
      × HolderShows d (record h { base = removed_once (Numbered q) h.base; duties = ds })
  end_base_shown q ends = (
    base_is,
    record {
      names = subst (λ l. SameBindings l h.environments) (sym ends.2) shows.names;
      protections = λ r.
          let a = ends.1 r in
          let b = shows.protections r in
          let n = number_is (Numbered q) r in
          let f : protection_count (Numbered r) h.environments h.base
          ≡ protection_count (Numbered r) h.environments (Numbered q ∷ map Numbered d.base.items) =
          ap (protection_count (Numbered r) h.environments) base_is in
          let g = based (Numbered r) h.environments (Numbered q) (map Numbered d.base.items) in
          let x : protection_count (Numbered r) h.environments (removed_once (Numbered q) h.base)
          ≡ protection_count (Numbered r) h.environments (map Numbered d.base.items) =
          ap (protection_count (Numbered r) h.environments) removed in
          omega (arith, a, b, n, f, g, x);
      base = sym removed;
      fills = λ r i. ends.3 (Numbered r) ∙ shows.fills r i;
      global_fill = ends.3 GlobalRegion ∙ shows.global_fill;
      reserved = ends.4 ∙ shows.reserved;
      no_offer = shows.no_offer;
    },
  )
    where
      base_is : h.base ≡ Numbered q ∷ map Numbered d.base.items
      base_is = sym shows.base ∙ ap (map Numbered) ends.0

      removed : removed_once (Numbered q) h.base ≡ map Numbered d.base.items
      removed =
          ap (removed_once (Numbered q)) base_is
          ∙ ap (λ b. if b then map Numbered d.base.items else Numbered q ∷ removed_once (Numbered q)
          (map Numbered d.base.items)) (same_reflexive (Numbered q))
