-- What the code keeps of a goroutine shows the machine's holder at its start, and after calls and returns. Protections are counted over
-- all frames in the code and listed by frame in the machine; a return keeps them equal because the frame that goes protects nothing.
use Rattle.std.proofs.Common.{◌≡◌, ℕ, ◌+◌, ◌≤◌, Bool, true, false, ◌||◌, List, [], ◌∷◌, map}
use Rattle.std.proofs.Common.{None, refl, sym, ap, ◌∙◌, subst, nat_eq, if◌then◌else◌, arith, true≢false}
use Rattle.std.proofs.lemmas.Bool.{eqb-false}
use Rattle.std.specs.List.{list_any}
use Rattle.rgo_region_machine.specs.declared.regions.Region.{Region}
use Rattle.rgo_region_machine.specs.declared.regions.Region.TheVariants.{Global as GlobalRegion, Numbered}
use Rattle.rgo_region_machine.specs.Objects.{fill_of}
use Rattle.rgo_region_machine.specs.Regions.{Bindings, bound, same_region, unbind, without_all}
use Rattle.rgo_region_machine.specs.States as spec
use Rattle.rgo_region_machine.specs.States.{Duty, RegionEnvironment, NoOffer, below, environment_of, top_names, with_top}
use Rattle.rgo_sound.proofs.names.Core.{bound_unbind, bound_unbind_other}
use Rattle.rgo_sound.proofs.duties.Moves.{same_regions}
use Rattle.rgo_sound.proofs.Tests.{eq_of, split}
use Rattle.rgo_sound.specs.Invariant.{EachOnce, times}
use Rattle.rgo_sound.specs.Stakes.{is_in, one_when}
use Rattle.rgo_tac.specs.declared.regions.Class.{Class}
use Rattle.rgo_region_interpreter.specs.Calls.{UnbindsAll, bound_except}
use Rattle.rgo_region_interpreter.specs.declared.holders.Holder.{Holder}
use Rattle.rgo_region_interpreter.specs.Holders.{HolderShows, HolderBegins, HolderReturns, HolderEnters, FrameNames, SameBindings}
use Rattle.rgo_region_interpreter.specs.Holders.{bound_in, frame_names_of, protection_count, times_among, times_region}
use Rattle.rgo_region_interpreter.proofs.holding.Showing.{flip, renamed, times_are, top_protections}

-- ---- what changes on one side alone

-- the machine's holder changed in what is not shown
pub alike_shown : (c : Holder) (h k : spec.Holder) → HolderShows c h → k.environments ≡ h.environments → k.base ≡ h.base
    → k.stakes ≡ h.stakes → k.fills ≡ h.fills → k.reserved ≡ h.reserved → k.offer ≡ h.offer → HolderShows c k
alike_shown c h k shows es bs ss fs rs o = record {
  names = subst (SameBindings (frame_names_of c)) (sym es) shows.names;
  protections = λ r. shows.protections r ∙ ap (λ x. protection_count (Numbered r) x h.base) (sym es)
      ∙ ap (protection_count (Numbered r) k.environments) (sym bs);
  base = shows.base ∙ sym bs;
  fills = λ r i. shows.fills r (ap (is_in r) (sym ss) ∙ i) ∙ ap (λ x. fill_of x (Numbered r)) (sym fs);
  global_fill = shows.global_fill ∙ ap (λ x. fill_of x GlobalRegion) (sym fs);
  reserved = shows.reserved ∙ sym rs;
  no_offer = o ∙ shows.no_offer;
}

-- other steps are owed
pub duties_shown : (c : Holder) (h : spec.Holder) (ds : List Duty) → HolderShows c h
    → HolderShows c (record h { duties = ds })
duties_shown c h ds shows = alike_shown c h (record h { duties = ds }) shows refl refl refl refl refl refl

-- other steps are done
pub done_shown : (c : Holder) (h : spec.Holder) (n : ℕ) → HolderShows c h → HolderShows (record c { done = n }) h
done_shown c h n shows = record {
  names = shows.names;
  protections = shows.protections;
  base = shows.base;
  fills = shows.fills;
  global_fill = shows.global_fill;
  reserved = shows.reserved;
  no_offer = shows.no_offer;
}

-- ---- names

-- the names of the newest frame are changed again
pub with_top_again : (es : List RegionEnvironment) (names : Bindings) (change : Bindings → Bindings)
    → with_top (with_top es names) (change (top_names (with_top es names))) ≡ with_top es (change names)
with_top_again [] names change = refl
with_top_again (e ∷ es) names change = refl

pub with_top_same : (es : List RegionEnvironment) → with_top es (top_names es) ≡ es
with_top_same [] = refl
with_top_same (e ∷ es) = refl

-- what a name denotes, without these
pub bound_without_all : (names : Bindings) (given : List ℕ) (k : ℕ)
    → bound (without_all names given) k ≡ (if list_any (nat_eq k) given then None else bound names k)
bound_without_all names [] k = refl
bound_without_all names (g ∷ gs) k =
    bound_without_all (unbind names g) gs k ∙ go (nat_eq k g) refl (list_any (nat_eq k) gs)
  where
    go : (a : Bool) → nat_eq k g ≡ a → (b : Bool) → (if b then None else bound (unbind names g) k)
        ≡ (if a || b then None else bound names k)
    go true t true = refl
    go true t false = subst (λ x. bound (unbind names g) x ≡ None) (sym (eq_of k g t)) (bound_unbind names g)
    go false f true = refl
    go false f false = bound_unbind_other names g k (flip g k ∙ f)

-- ---- the base of a goroutine that starts

-- how often r is in the base
among_is : (r : ℕ) (base : List ℕ) → times_among r base ≡ times_region (Numbered r) (map Numbered base)
among_is r [] = refl
among_is r (q ∷ qs) =
    ap (λ n. n + times_among r qs) (ap one_when (flip q r)) ∙ ap (λ n. one_when (nat_eq r q) + n) (among_is r qs)

none_times : (r : Region) (rs : List Region) → list_any (same_region r) rs ≡ false → times_region r rs ≡ 0
none_times r [] n = refl
none_times r (s ∷ ss) n = go (same_region r s) (list_any (same_region r) ss) n (none_times r ss)
  where
    go : (a b : Bool) → (a || b) ≡ false → (b ≡ false → times_region r ss ≡ 0) → one_when a + times_region r ss ≡ 0
    go true b n next = absurd (true≢false n)
    go false b n next = let z = next n in omega (arith, z)

once_times : (r : Region) (rs : List Region) → EachOnce rs → times_region r rs ≤ 1
once_times r [] once = omega arith
once_times r (s ∷ ss) once = go (same_region r s) refl (once_times r ss once.1)
  where
    go : (b : Bool) → same_region r s ≡ b → times_region r ss ≤ 1 → one_when b + times_region r ss ≤ 1
    go true t l =
        let z = none_times r ss (ap (λ x. list_any (same_region x) ss) (same_regions r s t) ∙ once.0) in
        omega (arith, z)
    go false n l = omega (arith, l)

at_most_once : (n m : ℕ) → n ≡ m → m ≤ 1 → (if nat_eq n 0 then 0 else 1) ≡ m
at_most_once n m e l = split (nat_eq n 0)
    (λ t. let z = eq_of n 0 t in ap (λ b. if b then 0 else 1) t ∙ omega (arith, z, e))
    (λ f. let z = eqb-false n 0 f in ap (λ b. if b then 0 else 1) f ∙ omega (arith, z, e, l))

-- ---- steps

-- a goroutine that starts
pub begin_shown : (c : Holder) (h : spec.Holder) (names : FrameNames) (base : List ℕ) (e : RegionEnvironment)
    → HolderBegins c names base → h.environments ≡ e ∷ [] → ((k : ℕ) → bound_in names k ≡ bound e.names k)
    → e.protections ≡ [] → map Numbered base ≡ h.base → EachOnce h.base → h.fills ≡ []
    → h.reserved ≡ 0 → h.offer ≡ NoOffer → HolderShows c h
begin_shown c h names base e begins es same none is once fs none_reserved offer = record {
  names = subst (SameBindings (frame_names_of c)) (sym es)
      (subst (λ l. SameBindings l (e ∷ [])) (sym begins.frames) (same, tt));
  protections = λ r.
      let p : protection_count (Numbered r) h.environments h.base ≡ 0 + times_region (Numbered r) h.base =
      ap (λ l. protection_count (Numbered r) l h.base) es
      ∙ ap (λ l. times_region (Numbered r) l + times_region (Numbered r) h.base) none in
      let q = begins.protections r
      ∙ at_most_once (times_among r base) (times_region (Numbered r) h.base)
      (among_is r base ∙ ap (times_region (Numbered r)) is) (once_times (Numbered r) h.base once) in
      omega (arith, p, q);
  base = ap (map Numbered) begins.base_is ∙ is;
  fills = λ r i. begins.fills (Numbered r) ∙ sym (ap (λ l. fill_of l (Numbered r)) fs);
  global_fill = begins.fills GlobalRegion ∙ sym (ap (λ l. fill_of l GlobalRegion) fs);
  reserved = begins.reserved ∙ sym none_reserved;
  no_offer = offer;
}

module _ (c d : Holder) (h : spec.Holder) (shows : HolderShows c h) (ds : List Duty) where
  -- a call
  pub enter_shown : (lent : Class) (names : FrameNames) (bindings : Bindings) → HolderEnters c d names
      → ((k : ℕ) → bound_in names k ≡ bound bindings k)
      → HolderShows d (record h { environments = environment_of lent bindings ∷ h.environments; duties = ds })
  enter_shown lent names bindings enters same = record {
    names = subst (λ l. SameBindings l (environment_of lent bindings ∷ h.environments)) (sym enters.0)
        (same, shows.names);
    protections = λ r. let a = enters.1.protections r in let b = shows.protections r in omega (arith, a, b);
    base = ap (map Numbered) enters.1.base ∙ shows.base;
    fills = λ r i. enters.1.fills (Numbered r) ∙ shows.fills r i;
    global_fill = enters.1.fills GlobalRegion ∙ shows.global_fill;
    reserved = enters.1.reserved ∙ shows.reserved;
    no_offer = shows.no_offer;
  }

  -- names that a call leaves to its callee
  pub given_shown : (e : RegionEnvironment) (es : List RegionEnvironment) → h.environments ≡ e ∷ es → (given : List ℕ)
      → UnbindsAll c d given
      → HolderShows d (record h {
        environments = with_top h.environments (without_all (top_names h.environments) given);
        duties = ds;
      })
  given_shown e es there given unbinds = record {
    names = renamed c d (bound_except given) (without_all (top_names h.environments) given) h.environments shows.names
        unbinds (λ names same k. ap (λ o. if list_any (nat_eq k) given then None else o) (same k)
        ∙ sym (bound_without_all (top_names h.environments) given k)) e es there;
    protections = λ r. unbinds.kept.protections r ∙ shows.protections r
        ∙ sym (top_protections (Numbered r) h.environments (without_all (top_names h.environments) given) h.base);
    base = ap (map Numbered) unbinds.kept.base ∙ shows.base;
    fills = λ r i. unbinds.kept.fills (Numbered r) ∙ shows.fills r i;
    global_fill = unbinds.kept.fills GlobalRegion ∙ shows.global_fill;
    reserved = unbinds.kept.reserved ∙ shows.reserved;
    no_offer = shows.no_offer;
  }

  -- a return of a function that protects nothing
  pub return_shown : (e : RegionEnvironment) (es : List RegionEnvironment) → h.environments ≡ e ∷ es
      → ((r : Region) → times r e.protections ≡ 0) → HolderReturns c d
      → HolderShows d (record h { environments = below h.environments; duties = ds })
  return_shown e es there none back = record {
    names = subst (λ l. SameBindings (frame_names_of d) (below l)) (sym there)
        (go (frame_names_of c) refl (subst (SameBindings (frame_names_of c)) there shows.names));
    protections = λ r.
        let a = back.1.protections r in
        let b = shows.protections r in
        let f : protection_count (Numbered r) h.environments h.base
        ≡ times_region (Numbered r) e.protections + protection_count (Numbered r) es h.base =
        ap (λ l. protection_count (Numbered r) l h.base) there in
        let g : protection_count (Numbered r) (below h.environments) h.base ≡ protection_count (Numbered r) es h.base =
        ap (λ l. protection_count (Numbered r) (below l) h.base) there in
        let z = none (Numbered r) in
        let y = times_are (Numbered r) e.protections in
        omega (arith, a, b, f, g, z, y);
    base = ap (map Numbered) back.1.base ∙ shows.base;
    fills = λ r i. back.1.fills (Numbered r) ∙ shows.fills r i;
    global_fill = back.1.fills GlobalRegion ∙ shows.global_fill;
    reserved = back.1.reserved ∙ shows.reserved;
    no_offer = shows.no_offer;
  }
    where
      go : (ns : List FrameNames) → frame_names_of c ≡ ns → SameBindings ns (e ∷ es) → SameBindings (frame_names_of d) es
      go [] q s = absurd s
      go (n ∷ ns) q s = subst (λ l. SameBindings l es) (sym (back.0 n ns q)) s.1
