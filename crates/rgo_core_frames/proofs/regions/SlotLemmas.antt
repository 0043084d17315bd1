-- What the region machine does to names, protections and duties, it does to slots: each function commutes with the map. Those that
-- compare regions do so only for live ones, which have different slots.
use Rattle.std.proofs.Common.{◌≡◌, ℕ, Bool, true, false, ◌||◌, ◌&&◌, not, List, [], ◌∷◌, ◌++◌, map, Option, Some, None, option_map}
use Rattle.std.proofs.Common.{refl, sym, ap, ◌∙◌, nat_eq, if◌then◌else◌, true≢false}
use Rattle.std.specs.List.{list_any}
use Rattle.rgo_sound.specs.Tac.declared.regions.Class.{Class}
use Rattle.rgo_sound.specs.Tac.declared.regions.Class.TheVariants.{NoClass, Global, Name}
use Rattle.rgo_sound.specs.RegionMachine.declared.regions.Region.{Region}
use Rattle.rgo_sound.specs.RegionMachine.declared.regions.Region.TheVariants.{Global as GlobalRegion, Numbered}
use Rattle.rgo_sound.specs.RegionMachine.Duties.{guards, with_protection, without_protection}
use Rattle.rgo_sound.specs.RegionMachine.Owed.{passed, passed_regions, stands_in, twice}
use Rattle.rgo_sound.specs.RegionMachine.Regions.{Bindings, RegionInfo, is_live, bound, class_region, removed_once, same_region, unbind, without_all}
use Rattle.rgo_sound.specs.RegionMachine.States.{Duty, Remove, Protect, Unprotect, EndBase, Create, Share, RegionEnvironment, top_names, with_top, below}
use Rattle.rgo_sound.proofs.duties.Moves.{same_regions}
use Rattle.rgo_sound.proofs.Tests.{eq_of, ne_of, nat_eq_refl, or_there, split}
use Rattle.rgo_core_frames.specs.Fits.{SlotsDiffer}
use Rattle.rgo_core_frames.specs.regions.Slots.{slotted_region, slot_duties, slot_environments, slot_names, slot_of_name}

pub map_append : {X Y : Type 0} (f : X → Y) (xs ys : List X) → map f (xs ++ ys) ≡ map f xs ++ map f ys
map_append f [] ys = refl
map_append f (x ∷ xs) ys = ap (λ zs. f x ∷ zs) (map_append f xs ys)

module _ (slot_of : ℕ → ℕ) where
  -- ---- names

  pub bound_slot : (names : Bindings) (k : ℕ) → bound (slot_names slot_of names) k ≡ option_map (slotted_region slot_of) (bound names k)
  bound_slot [] k = refl
  bound_slot (b ∷ bs) k = go (nat_eq b.0 k) (bound_slot bs k)
    where
      go : (t : Bool) → bound (slot_names slot_of bs) k ≡ option_map (slotted_region slot_of) (bound bs k)
          → (if t then Some (slotted_region slot_of b.1) else bound (slot_names slot_of bs) k)
          ≡ option_map (slotted_region slot_of) (if t then Some b.1 else bound bs k)
      go true e = refl
      go false e = e

  pub unbind_slot : (names : Bindings) (k : ℕ) → unbind (slot_names slot_of names) k ≡ slot_names slot_of (unbind names k)
  unbind_slot [] k = refl
  unbind_slot (b ∷ bs) k = go (nat_eq b.0 k) (unbind_slot bs k)
    where
      go : (t : Bool) → unbind (slot_names slot_of bs) k ≡ slot_names slot_of (unbind bs k)
          → (if t then unbind (slot_names slot_of bs) k else slot_of_name slot_of b ∷ unbind (slot_names slot_of bs) k)
          ≡ slot_names slot_of (if t then unbind bs k else b ∷ unbind bs k)
      go true e = e
      go false e = ap (λ (zs : Bindings). slot_of_name slot_of b ∷ zs) e

  pub without_all_slot : (ks : List ℕ) (names : Bindings) → without_all (slot_names slot_of names) ks
      ≡ slot_names slot_of (without_all names ks)
  without_all_slot [] names = refl
  without_all_slot (k ∷ ks) names =
      ap (λ (ns : Bindings). without_all ns ks) (unbind_slot names k) ∙ without_all_slot ks (unbind names k)

  pub class_slot : (names : Bindings) (c : Class) → class_region (slot_names slot_of names) c
      ≡ option_map (slotted_region slot_of) (class_region names c)
  class_slot names NoClass = refl
  class_slot names Global = refl
  class_slot names (Name k) = bound_slot names k

  abbrev pub slot_if : Option Region → Option Region
  slot_if o = option_map (slotted_region slot_of) o

  pub passes_slot : (names : Bindings) (passes : List Class) → passed_regions (slot_names slot_of names) passes
      ≡ map slot_if (passed_regions names passes)
  passes_slot names [] = refl
  passes_slot names (c ∷ cs) = λ i. class_slot names c i ∷ passes_slot names cs i

  pub passed_slot : (formals : List Class) (regions : List (Option Region)) → passed formals (map slot_if regions)
      ≡ slot_names slot_of (passed formals regions)
  passed_slot [] regions = refl
  passed_slot (NoClass ∷ fs) [] = refl
  passed_slot (Global ∷ fs) [] = refl
  passed_slot (Name k ∷ fs) [] = refl
  passed_slot (NoClass ∷ fs) (r ∷ rs) = passed_slot fs rs
  passed_slot (Global ∷ fs) (r ∷ rs) = passed_slot fs rs
  passed_slot (Name k ∷ fs) (None ∷ rs) = passed_slot fs rs
  passed_slot (Name k ∷ fs) (Some r ∷ rs) = ap (λ (zs : Bindings). (k, slotted_region slot_of r) ∷ zs) (passed_slot fs rs)

  -- ---- environments

  pub top_slot : (es : List RegionEnvironment) → top_names (slot_environments slot_of es) ≡ slot_names slot_of (top_names es)
  top_slot [] = refl
  top_slot (e ∷ es) = refl

  pub with_top_slot : (es : List RegionEnvironment) (names : Bindings) → with_top (slot_environments slot_of es) (slot_names slot_of names)
      ≡ slot_environments slot_of (with_top es names)
  with_top_slot [] names = refl
  with_top_slot (e ∷ es) names = refl

  pub below_slot : (es : List RegionEnvironment) → below (slot_environments slot_of es) ≡ slot_environments slot_of (below es)
  below_slot [] = refl
  below_slot (e ∷ es) = refl

  pub with_protection_slot : (es : List RegionEnvironment) (r : Region) → with_protection (slot_environments slot_of es) (slotted_region slot_of r)
      ≡ slot_environments slot_of (with_protection es r)
  with_protection_slot [] r = refl
  with_protection_slot (e ∷ es) r = refl

  -- ---- duties

  pub removes_slot : (ks : List ℕ) → slot_duties slot_of (map Remove ks) ≡ map Remove ks
  removes_slot [] = refl
  removes_slot (k ∷ ks) = ap (λ (ds : List Duty). Remove k ∷ ds) (removes_slot ks)

  pub unprotects_slot : (ks : List ℕ) → slot_duties slot_of (map Unprotect ks) ≡ map Unprotect ks
  unprotects_slot [] = refl
  unprotects_slot (k ∷ ks) = ap (λ (ds : List Duty). Unprotect k ∷ ds) (unprotects_slot ks)

  pub protects_slot : (ks : List ℕ) → slot_duties slot_of (map Protect ks) ≡ map Protect ks
  protects_slot [] = refl
  protects_slot (k ∷ ks) = ap (λ (ds : List Duty). Protect k ∷ ds) (protects_slot ks)

  pub creates_slot : (ks : List ℕ) → slot_duties slot_of (map Create ks) ≡ map Create ks
  creates_slot [] = refl
  creates_slot (k ∷ ks) = ap (λ (ds : List Duty). Create k ∷ ds) (creates_slot ks)

  pub shares_slot : (ks : List ℕ) → slot_duties slot_of (map Share ks) ≡ map Share ks
  shares_slot [] = refl
  shares_slot (k ∷ ks) = ap (λ (ds : List Duty). Share k ∷ ds) (shares_slot ks)

  pub ends_slot : (rs : List Region) → slot_duties slot_of (map EndBase rs) ≡ map EndBase (map (slotted_region slot_of) rs)
  ends_slot [] = refl
  ends_slot (r ∷ rs) = ap (λ (ds : List Duty). EndBase (slotted_region slot_of r) ∷ ds) (ends_slot rs)

  -- ---- which region it is

  module _ (regions : List RegionInfo) (differ : SlotsDiffer slot_of regions) where
    abbrev pub IsLive : Region → Type 0
    IsLive r = is_live regions r ≡ true

    abbrev pub AllLive : List Region → Type 0
    AllLive rs = (r : ℕ) → list_any (same_region (Numbered r)) rs ≡ true → is_live regions (Numbered r) ≡ true

    abbrev pub ProtectionsLive : List RegionEnvironment → Type 0
    ProtectionsLive [] = Unit {0}
    ProtectionsLive (e ∷ es) = AllLive e.protections × ProtectionsLive es

    pub same_slot : (r q : Region) → IsLive r → IsLive q → same_region (slotted_region slot_of r) (slotted_region slot_of q) ≡ same_region r q
    same_slot GlobalRegion GlobalRegion a b = refl
    same_slot GlobalRegion (Numbered q) a b = refl
    same_slot (Numbered r) GlobalRegion a b = refl
    same_slot (Numbered r) (Numbered q) a b = split (nat_eq r q)
        (λ t. let e = eq_of r q t in ap (λ x. nat_eq (slot_of r) (slot_of x)) (sym e) ∙ nat_eq_refl (slot_of r) ∙ sym t)
        (λ f. ne_of (slot_of r) (slot_of q) (λ e. true≢false (sym (sym f ∙ ap (λ x. nat_eq r x) (sym (differ r q a b e)) ∙ nat_eq_refl r))) ∙ sym f)

    head_live : (q : Region) (rs : List Region) → AllLive (q ∷ rs) → IsLive q
    head_live GlobalRegion rs h = refl
    head_live (Numbered q) rs h = h q (ap (λ b. b || list_any (same_region (Numbered q)) rs) (nat_eq_refl q))

    tail_live : (q : Region) (rs : List Region) → AllLive (q ∷ rs) → AllLive rs
    tail_live q rs h r e = h r (go (same_region (Numbered r) q) e)
      where
        go : (b : Bool) → list_any (same_region (Numbered r)) rs ≡ true → (b || list_any (same_region (Numbered r)) rs) ≡ true
        go true e = refl
        go false e = e

    pub any_slot : (r : Region) (rs : List Region) → IsLive r → AllLive rs
        → list_any (same_region (slotted_region slot_of r)) (map (slotted_region slot_of) rs) ≡ list_any (same_region r) rs
    any_slot r [] a h = refl
    any_slot r (q ∷ rs) a h = λ i. same_slot r q a (head_live q rs h) i || any_slot r rs a (tail_live q rs h) i

    pub removed_once_slot : (r : Region) (rs : List Region) → IsLive r → AllLive rs
        → removed_once (slotted_region slot_of r) (map (slotted_region slot_of) rs) ≡ map (slotted_region slot_of) (removed_once r rs)
    removed_once_slot r [] a h = refl
    removed_once_slot r (q ∷ rs) a h =
        ap (λ b. if b then map (slotted_region slot_of) rs else slotted_region slot_of q ∷ removed_once (slotted_region slot_of r) (map (slotted_region slot_of) rs))
        (same_slot r q a (head_live q rs h)) ∙ go (same_region r q) (removed_once_slot r rs a (tail_live q rs h))
      where
        go : (b : Bool) → removed_once (slotted_region slot_of r) (map (slotted_region slot_of) rs) ≡ map (slotted_region slot_of) (removed_once r rs)
            → (if b then map (slotted_region slot_of) rs else slotted_region slot_of q ∷ removed_once (slotted_region slot_of r) (map (slotted_region slot_of) rs))
            ≡ map (slotted_region slot_of) (if b then rs else q ∷ removed_once r rs)
        go true e = refl
        go false e = ap (λ (zs : List Region). slotted_region slot_of q ∷ zs) e

    pub removed_live : (q : Region) (ss : List Region) → AllLive ss → AllLive (removed_once q ss)
    removed_live q ss h r e = h r (among ss e)
      where
        deeper : (b c d : Bool) → (b || c) ≡ true → (c ≡ true → d ≡ true) → (b || d) ≡ true
        deeper true c d h n = refl
        deeper false c d h n = n h

        among : (ss : List Region) → list_any (same_region (Numbered r)) (removed_once q ss) ≡ true
            → list_any (same_region (Numbered r)) ss ≡ true
        among [] e = e
        among (s ∷ ss) e = go (same_region q s) e (among ss)
          where
            go : (b : Bool) → list_any (same_region (Numbered r)) (if b then ss else s ∷ removed_once q ss) ≡ true
                → (list_any (same_region (Numbered r)) (removed_once q ss) ≡ true → list_any (same_region (Numbered r)) ss ≡ true)
                → (same_region (Numbered r) s || list_any (same_region (Numbered r)) ss) ≡ true
            go true e next = or_there (same_region (Numbered r) s) (list_any (same_region (Numbered r)) ss) e
            go false e next =
                deeper (same_region (Numbered r) s) (list_any (same_region (Numbered r)) (removed_once q ss))
                (list_any (same_region (Numbered r)) ss) e next

    pub guards_slot : (base : List Region) (es : List RegionEnvironment) (r : Region) → IsLive r → AllLive base
        → ProtectionsLive es → guards (map (slotted_region slot_of) base) (slot_environments slot_of es) (slotted_region slot_of r) ≡ guards base es r
    guards_slot base [] r a b s = any_slot r base a b
    guards_slot base (e ∷ es) r a b s = λ i. any_slot r e.protections a s.0 i || guards_slot base es r a b s.1 i

    pub without_protection_slot : (es : List RegionEnvironment) (r : Region) → IsLive r → ProtectionsLive es
        → without_protection (slot_environments slot_of es) (slotted_region slot_of r) ≡ slot_environments slot_of (without_protection es r)
    without_protection_slot [] r a s = refl
    without_protection_slot (e ∷ es) r a s = λ i. record {
      lent = e.lent;
      names = slot_names slot_of e.names;
      protections = removed_once_slot r e.protections a s.0 i;
    } ∷ slot_environments slot_of es

    pub with_top_live : (es : List RegionEnvironment) (names : Bindings) → ProtectionsLive es → ProtectionsLive (with_top es names)
    with_top_live [] names h = h
    with_top_live (e ∷ es) names h = h

    -- ---- regions passed

    abbrev pub PassedLive : List (Option Region) → Type 0
    PassedLive [] = Unit {0}
    PassedLive (None ∷ rs) = PassedLive rs
    PassedLive (Some r ∷ rs) = IsLive r × PassedLive rs

    stands_in_slot : (r : Region) (rs : List (Option Region)) → IsLive r → PassedLive rs
        → stands_in (slotted_region slot_of r) (map slot_if rs) ≡ stands_in r rs
    stands_in_slot r [] l h = refl
    stands_in_slot r (None ∷ rs) l h = stands_in_slot r rs l h
    stands_in_slot r (Some q ∷ rs) l h = λ i. same_slot r q l h.0 i || stands_in_slot r rs l h.1 i

    abbrev EachLive : List Region → Type 0
    EachLive [] = Unit {0}
    EachLive (r ∷ rs) = IsLive r × EachLive rs

    each_all : (rs : List Region) → EachLive rs → AllLive rs
    each_all [] h r e = absurd (true≢false (sym e))
    each_all (q ∷ rs) h r e = go (same_region (Numbered r) q) refl e (λ f. each_all rs h.1 r f)
      where
        go : (b : Bool) → same_region (Numbered r) q ≡ b → (b || list_any (same_region (Numbered r)) rs) ≡ true
            → (list_any (same_region (Numbered r)) rs ≡ true → is_live regions (Numbered r) ≡ true)
            → is_live regions (Numbered r) ≡ true
        go true t e k = ap (is_live regions) (same_regions (Numbered r) q t) ∙ h.0
        go false t e k = k e

    twice_each : (rs : List (Option Region)) → PassedLive rs → EachLive (twice rs)
    twice_each [] h = tt
    twice_each (None ∷ rs) h = twice_each rs h
    twice_each (Some GlobalRegion ∷ rs) h = twice_each rs h.1
    twice_each (Some (Numbered r) ∷ rs) h =
        go (stands_in (Numbered r) rs && not (list_any (same_region (Numbered r)) (twice rs))) (twice_each rs h.1)
      where
        go : (b : Bool) → EachLive (twice rs) → EachLive (if b then Numbered r ∷ twice rs else twice rs)
        go true k = (h.0, k)
        go false k = k

    pub twice_slot : (rs : List (Option Region)) → PassedLive rs → twice (map slot_if rs) ≡ map (slotted_region slot_of) (twice rs)
    twice_slot [] h = refl
    twice_slot (None ∷ rs) h = twice_slot rs h
    twice_slot (Some GlobalRegion ∷ rs) h = twice_slot rs h.1
    twice_slot (Some (Numbered r) ∷ rs) h =
        ap (λ b. if b then Numbered (slot_of r) ∷ twice (map slot_if rs) else twice (map slot_if rs)) (test (twice_slot rs h.1))
        ∙ go (stands_in (Numbered r) rs && not (list_any (same_region (Numbered r)) (twice rs))) (twice_slot rs h.1)
      where
        rest : twice (map slot_if rs) ≡ map (slotted_region slot_of) (twice rs)
            → list_any (same_region (Numbered (slot_of r))) (twice (map slot_if rs))
            ≡ list_any (same_region (Numbered r)) (twice rs)
        rest e = ap (list_any (same_region (Numbered (slot_of r)))) e
            ∙ any_slot (Numbered r) (twice rs) h.0 (each_all (twice rs) (twice_each rs h.1))

        test : twice (map slot_if rs) ≡ map (slotted_region slot_of) (twice rs)
            → (stands_in (Numbered (slot_of r)) (map slot_if rs)
            && not (list_any (same_region (Numbered (slot_of r))) (twice (map slot_if rs))))
            ≡ (stands_in (Numbered r) rs && not (list_any (same_region (Numbered r)) (twice rs)))
        test e = λ i. stands_in_slot (Numbered r) rs h.0 h.1 i && not (rest e i)

        go : (b : Bool) → twice (map slot_if rs) ≡ map (slotted_region slot_of) (twice rs)
            → (if b then Numbered (slot_of r) ∷ twice (map slot_if rs) else twice (map slot_if rs))
            ≡ map (slotted_region slot_of) (if b then Numbered r ∷ twice rs else twice rs)
        go true e = ap (λ (zs : List Region). Numbered (slot_of r) ∷ zs) e
        go false e = e
