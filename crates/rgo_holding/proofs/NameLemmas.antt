-- What the keys of a goroutine's frames stand for, as names end and are made, frames come and go, and regions are left. By induction over
-- the environments, with a table at the height of some of them. No table is higher than the frames.
use Rattle.std.proofs.Common.{◌≡◌, ◌≢◌, ◌≤◌, ◌<◌, ℕ, zero, suc, Bool, true, false, List, [], ◌∷◌, ◌++◌, Option, Some, None, ap, arith, if◌then◌else◌, length, nat_eq, nat_lt, option_map, refl, slice_set, subst, sym, ◌∙◌}
use Rattle.std.proofs.lemmas.Option.{none-some, same_Some}
use Rattle.std.specs.List.{AllByRecursion}
use Rattle.rgo_sound.specs.RegionMachine.Regions.{Bindings, bound, unbind, without_all}
use Rattle.rgo_sound.specs.RegionMachine.States.{RegionEnvironment}
use Rattle.rgo_sound.specs.RegionMachine.declared.regions.Region.{Region}
use Rattle.rgo_sound.proofs.names.Core.{bound_unbind, bound_unbind_other}
use Rattle.rgo_sound.proofs.Tests.{eq_of, ne_of, split}
use Rattle.rgo_holding.specs.declared.keys.Key.{Key}
use Rattle.rgo_holding.specs.Changes.{IsUnboundRegion, KnowsNone}
use Rattle.rgo_holding.specs.Naming.{keys_changed_at, cleared_keys, cut, with_named}
use Rattle.rgo_holding.specs.Tables.{Keys, Named, NamesStand, StandFor, key_in, keys_at, named_below}

-- ---- single keys

key_set_none : (keys : Keys) (k : ℕ) → key_in (slice_set keys k None) k ≡ None
key_set_none [] k = refl
key_set_none (x ∷ keys) zero = refl
key_set_none (x ∷ keys) (suc k) = key_set_none keys k

key_set_here : (keys : Keys) (k : ℕ) (x : Option Key) → k < length keys → key_in (slice_set keys k x) k ≡ x
key_set_here [] k x l = absurd (omega (arith, l))
key_set_here (y ∷ keys) zero x l = refl
key_set_here (y ∷ keys) (suc k) x l = key_set_here keys k x (omega (arith, l))

key_set_other : (keys : Keys) (k j : ℕ) (x : Option Key) → nat_eq k j ≡ false → key_in (slice_set keys k x) j ≡ key_in keys j
key_set_other [] k j x n = refl
key_set_other (y ∷ keys) zero zero x n = absurd (differ n)
  where
    differ : nat_eq zero zero ≡ false → ⊥
    differ n = grind arith
key_set_other (y ∷ keys) zero (suc j) x n = refl
key_set_other (y ∷ keys) (suc k) zero x n = refl
key_set_other (y ∷ keys) (suc k) (suc j) x n = key_set_other keys k j x (down k j n)
  where
    down : (k j : ℕ) → nat_eq (suc k) (suc j) ≡ false → nat_eq k j ≡ false
    down k j n = grind arith

module _ (region : Key → Option Region) where
  abbrev stands : Option Key → Option (Option Region)
  stands key = option_map region key

  -- a name ends
  pub stand_unbound : (keys : Keys) (names : Bindings) (k : ℕ) → StandFor region keys names
      → StandFor region (slice_set keys k None) (unbind names k)
  stand_unbound keys names k h j = split (nat_eq k j)
      (λ t. let e = eq_of k j t in
      ap (λ i. stands (key_in (slice_set keys k None) i)) (sym e) ∙ ap stands (key_set_none keys k)
      ∙ ap (option_map Some) (sym (bound_unbind names k) ∙ ap (bound (unbind names k)) e))
      (λ f. ap stands (key_set_other keys k j None f) ∙ h j ∙ ap (option_map Some) (sym (bound_unbind_other names k j f)))

  -- names are left to a callee
  pub stand_cleared : (ks : List ℕ) (keys : Keys) (names : Bindings) → StandFor region keys names
      → StandFor region (cleared_keys keys ks) (without_all names ks)
  stand_cleared [] keys names h = h
  stand_cleared (k ∷ ks) keys names h =
      stand_cleared ks (slice_set keys k None) (unbind names k) (stand_unbound keys names k h)

  -- a name is made
  pub stand_bound : (keys : Keys) (names : Bindings) (k : ℕ) (key : Key) (r : Region) → k < length keys
      → region key ≡ Some r → StandFor region keys names
      → StandFor region (slice_set keys k (Some key)) ((k, r) ∷ unbind names k)
  stand_bound keys names k key r l is h j = split (nat_eq k j)
      (λ t. let e = eq_of k j t in
      ap (λ i. stands (key_in (slice_set keys k (Some key)) i)) (sym e) ∙ ap stands (key_set_here keys k (Some key) l)
      ∙ ap Some is ∙ sym (ap (λ b. option_map Some (if b then Some r else bound (unbind names k) j)) t))
      (λ f. ap stands (key_set_other keys k j (Some key) f) ∙ h j
      ∙ ap (option_map Some) (sym (bound_unbind_other names k j f)
      ∙ sym (ap (λ b. if b then Some r else bound (unbind names k) j) f)))

  -- the same keys
  pub stand_same : (keys others : Keys) (names : Bindings) → ((k : ℕ) → key_in others k ≡ key_in keys k)
      → StandFor region keys names → StandFor region others names
  stand_same keys others names same h k = ap stands (same k) ∙ h k

  -- ---- frames

  -- no table has a height above the number of frames
  height_within : (f : Named) (fs : List Named) (es : List RegionEnvironment) → NamesStand region (f ∷ fs) es → f.height ≤ length es
  height_within f fs [] h = absurd (no_cons h)
    where
      no_cons : ◌≡◌ {A = List Named} (f ∷ fs) [] → ⊥
      no_cons e = cc
  height_within f fs (e ∷ es) h = split (nat_eq f.height (suc (length es)))
      (λ t. let x = eq_of f.height (suc (length es)) t in omega (arith, x))
      (λ n. let below = height_within f fs es (subst (λ l. NamesStand region l es)
      (ap (λ b. if b then fs else f ∷ fs) n) h.1) in omega (arith, below))

  above_none : (fs : List Named) (es : List RegionEnvironment) (n : ℕ) → NamesStand region fs es → length es < n
      → (keys_at fs n ≡ []) × (named_below fs n ≡ fs)
  above_none [] es n h l = (refl, refl)
  above_none (f ∷ fs) es n h l =
      let within = height_within f fs es h in
      let other = ne_of f.height n (λ e. omega (arith, e, within, l)) in
      (ap (λ b. if b then f.keys else []) other, ap (λ b. if b then fs else f ∷ fs) other)

  -- the newest frame's keys are changed, and so are its names
  pub change_newest : (fs : List Named) (change : Keys → Keys) (e : RegionEnvironment) (es : List RegionEnvironment) (names : Bindings)
      → change [] ≡ [] → (StandFor region (keys_at fs (suc (length es))) e.names
      → StandFor region (change (keys_at fs (suc (length es)))) names)
      → NamesStand region fs (e ∷ es)
      → NamesStand region (keys_changed_at (suc (length es)) change fs) (record e { names = names } ∷ es)
  change_newest [] change e es names none f h = (subst (λ ks. StandFor region ks names) none (f h.0), h.1)
  change_newest (x ∷ fs) change e es names none f h = go (suc (length es)) (nat_eq x.height (suc (length es))) refl f h
    where
      go : (n : ℕ) (b : Bool) → nat_eq x.height n ≡ b
          → (StandFor region (if nat_eq x.height n then x.keys else []) e.names
          → StandFor region (change (if nat_eq x.height n then x.keys else [])) names)
          → StandFor region (if nat_eq x.height n then x.keys else []) e.names
          × NamesStand region (if nat_eq x.height n then fs else x ∷ fs) es
          → StandFor region (keys_at ((if nat_eq x.height n then record x { keys = change x.keys } else x) ∷ fs) n) names
          × NamesStand region (named_below ((if nat_eq x.height n then record x { keys = change x.keys } else x) ∷ fs) n) es
      go n true t f h =
          let P : Bool → Type 0 = λ b. StandFor region (if b then x.keys else []) e.names in
          let Q : Bool → Type 0 = λ b. StandFor region (change (if b then x.keys else [])) names in
          let g : StandFor region x.keys e.names → StandFor region (change x.keys) names =
          λ s. subst Q t (f (subst P (sym t) s)) in
          let s : StandFor region x.keys e.names = subst P t h.0 in
          let r : NamesStand region fs es = subst (λ b. NamesStand region (if b then fs else x ∷ fs) es) t h.1 in
          subst (λ b. StandFor region (keys_at ((if b then record x { keys = change x.keys } else x) ∷ fs) n) names
          × NamesStand region (named_below ((if b then record x { keys = change x.keys } else x) ∷ fs) n) es) (sym t) (
            subst (λ b. StandFor region (if b then change x.keys else []) names) (sym t) (g s),
            subst (λ b. NamesStand region (if b then fs else record x { keys = change x.keys } ∷ fs) es) (sym t) r,
          )
      go n false t f h =
          let P : Bool → Type 0 = λ b. StandFor region (if b then x.keys else []) e.names in
          let Q : Bool → Type 0 = λ b. StandFor region (change (if b then x.keys else [])) names in
          let s : StandFor region [] names = subst (λ ks. StandFor region ks names) none (subst Q t (f h.0)) in
          let r : NamesStand region (x ∷ fs) es = subst (λ b. NamesStand region (if b then fs else x ∷ fs) es) t h.1 in
          subst (λ b. StandFor region (keys_at ((if b then record x { keys = change x.keys } else x) ∷ fs) n) names
          × NamesStand region (named_below ((if b then record x { keys = change x.keys } else x) ∷ fs) n) es) (sym t) (
            subst (λ b. StandFor region (if b then x.keys else []) names) (sym t) s,
            subst (λ b. NamesStand region (if b then fs else x ∷ fs) es) (sym t) r,
          )

  -- the newest frame has the same names by other keys
  pub same_newest : (fs gs : List Named) (es : List RegionEnvironment)
      → ((k : ℕ) → key_in (keys_at gs (length es)) k ≡ key_in (keys_at fs (length es)) k)
      → named_below gs (length es) ≡ named_below fs (length es) → 0 < length es → NamesStand region fs es
      → NamesStand region gs es
  same_newest fs gs [] keys below some h = absurd (omega (arith, some))
  same_newest fs gs (e ∷ es) keys below some h = (
    stand_same (keys_at fs (suc (length es))) (keys_at gs (suc (length es))) e.names keys h.0,
    subst (λ l. NamesStand region l es) (sym below) h.1,
  )

  -- a frame is entered
  pub entered : (fs : List Named) (keys : Keys) (e : RegionEnvironment) (es : List RegionEnvironment) → StandFor region keys e.names
      → NamesStand region fs es → NamesStand region (with_named (suc (length es)) keys fs) (e ∷ es)
  entered fs [] e es s h =
      let none = above_none fs es (suc (length es)) h (omega arith) in (
        subst (λ ks. StandFor region ks e.names) (sym none.0) s,
        subst (λ l. NamesStand region l es) (sym none.1) h,
      )
  entered fs (key ∷ keys) e es s h = (
    subst (λ c. StandFor region (if c then key ∷ keys else []) e.names) (sym (self (suc (length es)))) s,
    subst (λ c. NamesStand region (if c then fs else record { height = suc (length es); keys = key ∷ keys } ∷ fs) es)
        (sym (self (suc (length es)))) h,
  )
    where
      self : (n : ℕ) → nat_eq n n ≡ true
      self n = grind arith

  -- ---- after local steps

  cut_below : (fs : List Named) (kept n : ℕ) → kept < n → cut kept (named_below fs n) ≡ cut kept fs
  cut_below [] kept n l = refl
  cut_below (f ∷ fs) kept n l = split (nat_eq f.height n)
      (λ t. let e = eq_of f.height n t in
      let above : nat_lt kept f.height ≡ true = grind arith in
      ap (λ b. cut kept (if b then fs else f ∷ fs)) t ∙ sym (ap (λ b. if b then cut kept fs else f ∷ fs) above))
      (λ x. ap (λ b. cut kept (if b then fs else f ∷ fs)) x)

  cut_within : (fs : List Named) (es : List RegionEnvironment) → NamesStand region fs es → cut (length es) fs ≡ fs
  cut_within [] es h = refl
  cut_within (f ∷ fs) es h =
      let l = height_within f fs es h in
      let within : nat_lt (length es) f.height ≡ false = grind arith in
      ap (λ b. if b then cut (length es) fs else f ∷ fs) within

  longer : (above es : List RegionEnvironment) → length es ≤ length (above ++ es)
  longer [] es = omega arith
  longer (e ∷ above) es = let l = longer above es in omega (arith, l)

  left_below : (fs : List Named) (above es : List RegionEnvironment) → NamesStand region fs (above ++ es)
      → NamesStand region (cut (length es) fs) es
  left_below fs [] es h = subst (λ l. NamesStand region l es) (sym (cut_within fs es h)) h
  left_below fs (e ∷ above) es h =
      let l = longer above es in
      subst (λ x. NamesStand region x es) (cut_below fs (length es) (suc (length (above ++ es))) (omega (arith, l)))
      (left_below (named_below fs (suc (length (above ++ es)))) above es h.1)

  bare_above : (fs : List Named) (fresh es : List RegionEnvironment) → AllByRecursion KnowsNone fresh → NamesStand region fs es
      → NamesStand region fs (fresh ++ es)
  bare_above fs [] es bare h = h
  bare_above fs (e ∷ fresh) es bare h =
      let below = bare_above fs fresh es bare.1 h in
      let none = above_none fs (fresh ++ es) (suc (length (fresh ++ es))) below (omega arith) in (
        λ k. ap (λ ks. stands (key_in ks k)) none.0 ∙ ap (λ (ns : Bindings). option_map Some (bound ns k)) (sym bare.0.names),
        subst (λ l. NamesStand region l (fresh ++ es)) (sym none.1) below,
      )

  pub settled : (fs : List Named) (above fresh stayed : List RegionEnvironment) → AllByRecursion KnowsNone fresh
      → NamesStand region fs (above ++ stayed) → NamesStand region (cut (length stayed) fs) (fresh ++ stayed)
  settled fs above fresh stayed bare h = bare_above (cut (length stayed) fs) fresh stayed bare (left_below fs above stayed h)

-- ---- other regions

-- a key in a frame is in use
pub stand_used : (region : Key → Option Region) (keys : Keys) (names : Bindings) (k : ℕ) (key : Key) → StandFor region keys names
    → key_in keys k ≡ Some key → (r : Region) × (region key ≡ Some r) × (bound names k ≡ Some r)
stand_used region keys names k key h is = go (bound names k) refl (ap (option_map region) (sym is) ∙ h k)
  where
    go : (o : Option Region) → bound names k ≡ o → Some (region key) ≡ option_map Some o
        → (r : Region) × (region key ≡ Some r) × (bound names k ≡ Some r)
    go None b e = absurd (none-some _ (sym e))
    go (Some r) b e = (r, same_Some _ _ e, b)

module _ (before after : Key → Option Region) (Keep : Region → Type 0)
    (keep : (key : Key) (r : Region) → before key ≡ Some r → Keep r → after key ≡ Some r) where
  pub stand_kept : (keys : Keys) (names : Bindings) → ((k : ℕ) (r : Region) → bound names k ≡ Some r → Keep r)
      → StandFor before keys names → StandFor after keys names
  stand_kept keys names all h k = go (key_in keys k) refl
    where
      go : (o : Option Key) → key_in keys k ≡ o → option_map after (key_in keys k) ≡ option_map Some (bound names k)
      go None e = ap (option_map after) e ∙ ap (option_map before) (sym e) ∙ h k
      go (Some key) e =
          let u = stand_used before keys names k key h e in
          ap (option_map after) e ∙ ap Some (keep key u.0 u.1 (all k u.0 u.2)) ∙ ap (option_map Some) (sym u.2)

  abbrev pub AllKept : List RegionEnvironment → Type 0
  AllKept es = AllByRecursion (λ (e : RegionEnvironment). (k : ℕ) (r : Region) → bound e.names k ≡ Some r → Keep r) es

  -- the keys of regions that are kept are good after it
  pub names_kept : (fs : List Named) (es : List RegionEnvironment) → AllKept es → NamesStand before fs es → NamesStand after fs es
  names_kept fs [] all h = h
  names_kept fs (e ∷ es) all h = (
    stand_kept (keys_at fs (suc (length es))) e.names all.0 h.0,
    names_kept (named_below fs (suc (length es))) es all.1 h.1,
  )

-- no key has changed
pub names_same : (before after : Key → Option Region) → ((key : Key) → after key ≡ before key) → (fs : List Named)
    (es : List RegionEnvironment) → NamesStand before fs es → NamesStand after fs es
names_same before after same fs es h =
    names_kept before after (λ r. Unit {0}) (λ key r e u. same key ∙ e) fs es (all es) h
  where
    all : (es : List RegionEnvironment)
        → AllByRecursion (λ (e : RegionEnvironment). (k : ℕ) (r : Region) → bound e.names k ≡ Some r → Unit {0}) es
    all [] = tt
    all (e ∷ es) = (λ k r b. tt, all es)

-- the keys of all regions but one are good
pub names_but : (before after : Key → Option Region) (gone : Region)
    → ((key : Key) (r : Region) → before key ≡ Some r → r ≢ gone → after key ≡ Some r) → (fs : List Named)
    (es : List RegionEnvironment) → IsUnboundRegion gone es → NamesStand before fs es → NamesStand after fs es
names_but before after gone keep fs es unnamed h =
    names_kept before after (λ r. r ≢ gone) keep fs es (all es unnamed) h
  where
    all : (es : List RegionEnvironment) → IsUnboundRegion gone es
        → AllByRecursion (λ (e : RegionEnvironment). (k : ℕ) (r : Region) → bound e.names k ≡ Some r → r ≢ gone) es
    all [] u = tt
    all (e ∷ es) u = (λ k r b same. u.0 k (b ∙ ap Some same), all es u.1)
