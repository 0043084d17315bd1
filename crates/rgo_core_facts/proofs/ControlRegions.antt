-- Which regions a goroutine knows. Region safety says it of region numbers. A record has slots, and two regions that the goroutine knows
-- have different ones, since both are live.
use Rattle.std.proofs.Common.{◌≡◌, ◌⊎◌, inl, inr, ⊎_elim, ◌∙◌, ◌<◌, ℕ, zero, suc, Bool, true, false, List, [], ◌∷◌, length, map, Option, Some, None, if◌then◌else◌, slice_get, refl, sym, ap, subst, arith, true≢false}
use Rattle.std.proofs.lemmas.List.{length-map}
use Rattle.std.proofs.lemmas.Option.{same_Some, some_pair_parts}
use Rattle.std.specs.List.{list_any}
use Rattle.rgo_sound.specs.Code.Code.{Code}
use Rattle.rgo_core.proofs.Frames.Before.{no_duties}
use Rattle.rgo_core.proofs.Frames.steps.LocalActs.{chained}
use Rattle.rgo_core.specs.Frames.shown.Variables.{CallersShow, FramesShow}
use Rattle.rgo_core.specs.Frames.regions.Slots.{slotted_region, slot_environment}
use Rattle.rgo_core.specs.Frames.regions.Stakes.{ended, stake_ended}
use Rattle.rgo_core.specs.Frames.shown.WordFrames.{WordFrame}
use Rattle.rgo_core.proofs.Memory.regions.Slots.{live_info}
use Rattle.rgo_core.proofs.Memory.image.Stepped.{map_get}
use Rattle.rgo_core.specs.Memory.Ground.{Held, MayUseRegion, held_of}
use Rattle.rgo_core.specs.Memory.Parts.{slot_of}
use Rattle.rgo_core.specs.Memory.Records.{Fill, Within}
use Rattle.rgo_sound.specs.RegionMachine.Duties.{guards}
use Rattle.rgo_sound.specs.RegionMachine.Regions.{bound, removed_once, same_region, unbind, without}
use Rattle.rgo_sound.specs.RegionMachine.States.{Create, Duty, EndBase, RegionEnvironment, Holder, Protect, Remove, Share, Unprotect, frames_in, top_names, with_top}
use Rattle.rgo_sound.specs.RegionMachine.declared.regions.Region.{Region}
use Rattle.rgo_sound.specs.RegionMachine.declared.regions.Region.TheVariants.{Global as GlobalRegion, Numbered}
use Rattle.rgo_sound.proofs.duties.Attends.{staked_live}
use Rattle.rgo_sound.proofs.names.Stakes.{stakes_counted}
use Rattle.rgo_sound.proofs.names.Core.{not_in_without}
use Rattle.rgo_sound.specs.Core.{AreStaked, AreUniqueIn, RegionsStaked}
use Rattle.rgo_sound.specs.Invariant.{AllWait, FramesFit, GoodHolder, Shares, to_share}
use Rattle.rgo_sound.specs.Stakes.{is_in, times_in}
use Rattle.rgo_sound.specs.Tac.Frames.{TacFrame}
use Rattle.rgo_core.specs.Core.{Situation, Setup, layout}
use Rattle.rgo_core.specs.Records.{Record}
use Rattle.rgo_core.proofs.image.Parts.{I}
use Rattle.rgo_core.proofs.image.Standing.{memory_at}
use Rattle.rgo_core_steps.specs.Counts.{by_first}
use Rattle.rgo_core_facts.specs.ControlRegions.{HasEnvironment, HasNothingOf, IsStaked, KnowsRegions, NewestNames, NoStakeAtEnd, NothingKept, RegionsKnown, StakeEnds}
use Rattle.rgo_core_facts.proofs.ControlPending.{none_pending_at_end, pending_bound}
use Rattle.rgo_core_facts.proofs.ControlSlots.{all_unique_slotted, any_unslotted, bound_unslotted, environment_unslotted, in_mapped, in_unmapped, staked_at, times_unmapped}
use Rattle.rgo_core_facts.proofs.ControlView.{Past, Seen, Shown, fitted, good_holder, seen, seen_good}

all_wait_many : (code : Code) (frames : List TacFrame) (es : List RegionEnvironment) → AllWait code frames es → length es ≡ length frames
all_wait_many code [] [] w = refl
all_wait_many code [] (e ∷ es) w = absurd w
all_wait_many code (frame ∷ frames) [] w = absurd w
all_wait_many code (frame ∷ frames) (e ∷ es) w = let n = all_wait_many code frames es w.1 in omega (arith, n)

pub environments_many : (code : Code) (base : List Region) (frames : List TacFrame) (es : List RegionEnvironment) (ds : List Duty)
    → FramesFit code base frames es ds → length es ≡ length frames
environments_many code base [] [] ds f = refl
environments_many code base [] (e ∷ es) ds f = absurd f
environments_many code base (frame ∷ frames) [] ds f = absurd f
environments_many code base (frame ∷ frames) (e ∷ es) ds f = let n = all_wait_many code frames es f.1 in omega (arith, n)

callers_many : (code : Code) (addresses : List ℕ) (frames : List TacFrame) (ws : List WordFrame) → CallersShow code addresses frames ws
    → length ws ≡ length frames
callers_many code addresses [] [] sh = refl
callers_many code addresses [] (w ∷ ws) sh = absurd sh
callers_many code addresses (frame ∷ frames) [] sh = absurd sh
callers_many code addresses (frame ∷ frames) (w ∷ ws) sh = let n = callers_many code addresses frames ws sh.1 in omega (arith, n)

frames_many : (code : Code) (addresses : List ℕ) (frames : List TacFrame) (ws : List WordFrame) → FramesShow code addresses frames ws
    → length ws ≡ length frames
frames_many code addresses [] [] sh = refl
frames_many code addresses [] (w ∷ ws) sh = absurd sh
frames_many code addresses (frame ∷ frames) [] sh = absurd sh
frames_many code addresses (frame ∷ frames) (w ∷ ws) sh = let n = callers_many code addresses frames ws sh.1 in omega (arith, n)

-- a pending stake is in a region in which the goroutine has one
pending_staked : (code : Code) (frames : List TacFrame) (h : Holder) → GoodHolder code frames h → (p : ℕ) → 0 < times_in p h.pending
    → is_in p h.stakes ≡ true
pending_staked code frames h good p l = go frames h.environments h.duties good.fit good.shares good.core.staked
  where
    go : (frames : List TacFrame) (es : List RegionEnvironment) (ds : List Duty) → FramesFit code h.base frames es ds
        → Shares (to_share code frames) ds (top_names es) h.pending → AreStaked h.stakes es → is_in p h.stakes ≡ true
    go [] [] ds fit shares staked =
        let z = none_pending_at_end h.base p h.pending (subst (λ (d : List Duty). Shares [] d [] h.pending) fit shares) in
        absurd (omega (arith, z, l))
    go [] (e ∷ es) ds fit shares staked = absurd fit
    go (frame ∷ callers) [] ds fit shares staked = absurd fit
    go (frame ∷ callers) (e ∷ es) ds fit shares staked =
        let b = pending_bound _ _ (to_share code (frame ∷ callers)) p ds e.names e.protections h.pending fit.0.ready shares l in
        staked.0 b.0 p b.1

module _ {T : Setup} {g : ℕ} {c : Record} (x : Situation T g c) where
  abbrev V : Seen x
  V = seen x

  abbrev s_of : ℕ → ℕ
  s_of = (I x).places.slot

  slot_low : (q : ℕ) → is_in q V.h.stakes ≡ true → s_of q < T.sizes.regions
  slot_low q i =
      let info = live_info x.s.regions q (staked_live T.code x.s g V.h q x.core.sound.good.good.fine V.there i) in
      ((I x).memory.counts.lives q info.0 info.1 info.2).0

  pub number_staked : (q : ℕ) → is_in q V.h.stakes ≡ true → IsStaked T c (Numbered (s_of q))
  number_staked q i = (
    ap (is_in (s_of q)) V.stakes ∙ in_mapped s_of V.h.stakes q i,
    slot_low q i,
  )

  -- a region, by its slot
  pub region_staked : (q r : Region) → slotted_region s_of q ≡ r → ((j : ℕ) → q ≡ Numbered j → is_in j V.h.stakes ≡ true) → IsStaked T c r
  region_staked GlobalRegion r e k = subst (IsStaked T c) e tt
  region_staked (Numbered j) r e k = subst (IsStaked T c) e (number_staked j (k j refl))

  pub slots_low : (p : ℕ) → is_in p c.frame.holder.stakes ≡ true → p < T.sizes.regions
  slots_low p i =
      let q = in_unmapped s_of V.h.stakes p (ap (is_in p) (sym V.stakes) ∙ i) in
      subst (λ n. n < T.sizes.regions) q.1 (slot_low q.0 q.2)

  environment_of : (e : RegionEnvironment) → HasEnvironment c e
      → (i : ℕ) × (f : RegionEnvironment) × (slice_get V.h.environments i ≡ Some f) × (slot_environment s_of f ≡ e)
  environment_of e (i, at) =
      let f = environment_unslotted s_of V.h.environments i e (ap (λ es. slice_get es i) (sym V.environments) ∙ at) in
      (i, f.0, f.1, f.2)

  pub names_staked : (e : RegionEnvironment) (k : ℕ) (r : Region) → HasEnvironment c e → bound e.names k ≡ Some r → IsStaked T c r
  names_staked e k r has b =
      let f = environment_of e has in
      let q = bound_unslotted s_of f.1.names k r (ap (λ (y : RegionEnvironment). bound y.names k) f.3 ∙ b) in
      region_staked q.0 r q.2
      (λ j is. (staked_at V.h.stakes V.h.environments f.0 f.1 (seen_good x).core.staked f.2).0 k j (q.1 ∙ ap Some is))

  pub listed_staked : (rs : List Region) (r : Region) → RegionsStaked V.h.stakes rs → list_any (same_region r) (map (slotted_region s_of) rs) ≡ true
      → IsStaked T c r
  listed_staked rs r staked e =
      let q = any_unslotted s_of rs r e in
      region_staked q.0 r q.1 (λ j is. staked j (ap (λ y. list_any (same_region y) rs) (sym is) ∙ q.2))

  protections_staked : (e : RegionEnvironment) (r : Region) → HasEnvironment c e → list_any (same_region r) e.protections ≡ true → IsStaked T c r
  protections_staked e r has a =
      let f = environment_of e has in
      listed_staked f.1.protections r (staked_at V.h.stakes V.h.environments f.0 f.1 (seen_good x).core.staked f.2).1
      (ap (λ (y : RegionEnvironment). list_any (same_region r) y.protections) f.3 ∙ a)

  pub base_staked : (r : Region) → list_any (same_region r) c.frame.holder.base ≡ true → IsStaked T c r
  base_staked r a = listed_staked V.h.base r (seen_good x).core.based (ap (list_any (same_region r)) (sym V.base) ∙ a)

  pendings_staked : (p : ℕ) → 0 < times_in p c.frame.holder.pending → IsStaked T c (Numbered p)
  pendings_staked p l =
      let q = times_unmapped s_of V.h.pending p (subst (λ (l : List ℕ). 0 < times_in p l) V.pending l) in
      subst (λ n. IsStaked T c (Numbered n)) q.1
      (number_staked q.0 (pending_staked T.code V.now V.h (seen_good x) q.0 q.2))

  pages_staked : (f : Fill) → Within f c.memory.fills → (f.slot ≡ T.sizes.regions) ⊎ IsStaked T c (Numbered f.slot)
  pages_staked f within =
      let w = (I x).memory.filled.fills g f (c.memory, memory_at x, within) in
      let held : w.0 ≡ held_of V.h = same_Some w.0 (held_of V.h) (sym w.2 ∙ map_get held_of x.s.holders g V.h V.there) in
      by w.1 (subst (λ (y : Held). MayUseRegion y w.1) held w.3) w.4
    where
      by : (r : Region) → MayUseRegion (held_of V.h) r → slot_of (layout T) s_of r ≡ f.slot
          → (f.slot ≡ T.sizes.regions) ⊎ IsStaked T c (Numbered f.slot)
      by GlobalRegion u e = inl (sym e)
      by (Numbered k) u e = inr (subst (λ n. IsStaked T c (Numbered n)) e (number_staked k u))

  pub as_many_environments : length c.frame.holder.environments ≡ length c.frame.frames
  as_many_environments =
      ap length V.environments ∙ length-map V.h.environments (slot_environment s_of)
      ∙ environments_many T.code V.h.base V.now V.h.environments V.h.duties (seen_good x).fit
      ∙ sym V.as_many ∙ sym (frames_many T.code (I x).addresses V.frames c.frame.frames V.shown)

pub regions_known : RegionsKnown
regions_known T g c x = record {
  slots = slots_low x;
  as_many = as_many_environments x;
  unique = subst AreUniqueIn (sym (seen x).environments)
      (all_unique_slotted (I x).places.slot (seen x).h.environments (seen_good x).core.unique);
  names = names_staked x;
  protections = protections_staked x;
  base = base_staked x;
  pending = pendings_staked x;
  pages = pages_staked x;
}

pub newest_names : NewestNames
newest_names T g c x k r b = by c.frame.holder.environments refl b
  where
    by : (es : List RegionEnvironment) → c.frame.holder.environments ≡ es → bound (top_names es) k ≡ Some r → IsStaked T c r
    by [] e b = absurd (none b)
      where
        none : None ≡ Some r → ⊥
        none q = cc
    by (e ∷ es) q b = names_staked x e k r (0, ap (λ l. slice_get l 0) q) b

-- ---- after the end of a stake

is_false : (b : Bool) → (b ≡ true → ⊥) → b ≡ false
is_false true n = absurd (n refl)
is_false false n = refl

is_zero : (n : ℕ) → (0 < n → ⊥) → n ≡ 0
is_zero zero n = refl
is_zero (suc m) n = absurd (n (omega arith))

none_of : (T : Setup) (c : Record) (slot : ℕ) → KnowsRegions T c → slot < T.sizes.regions → is_in slot c.frame.holder.stakes ≡ false
    → HasNothingOf c slot
none_of T c slot known low none = record {
  names = λ e k has b. clash (known.names e k (Numbered slot) has b);
  protections = λ e has. is_false _ (λ a. clash (known.protections e (Numbered slot) has a));
  base = is_false _ (λ a. clash (known.base (Numbered slot) a));
  pending = is_zero _ (λ l. clash (known.pending slot l));
  pages = λ f within e. ⊎_elim
      (λ (q : f.slot ≡ T.sizes.regions). omega (arith, q, e, low))
      (λ (st : IsStaked T c (Numbered f.slot)). clash (subst (λ n. IsStaked T c (Numbered n)) e st))
      (known.pages f within);
}
  where
    clash : IsStaked T c (Numbered slot) → ⊥
    clash st = true≢false (sym st.0 ∙ none)

pub nothing_kept : NothingKept
nothing_kept T g c x slot low none = none_of T c slot (regions_known T g c x) low none

no_pair : (y : ℕ × Holder) → ◌≡◌ {A = Option (ℕ × Holder)} None (Some y) → ⊥
no_pair y e = cc

ended_out : (h : Holder) (r : Region) (p : ℕ) (k : Holder) → ended h r ≡ Some (p, k) → is_in p k.stakes ≡ false
ended_out h GlobalRegion p k e = absurd (no_pair (p, k) e)
ended_out h (Numbered q) p k e = by (guards h.base h.environments (Numbered q)) e
  where
    by : (b : Bool)
        → ◌≡◌ {A = Option (ℕ × Holder)} (if b then None else Some (q, record h { stakes = without q h.stakes })) (Some (p, k))
        → is_in p k.stakes ≡ false
    by true e = absurd (no_pair (p, k) e)
    by false e =
        let z = some_pair_parts q p (record h { stakes = without q h.stakes }) k e in
        (λ i. is_in (sym z.0 i) (sym z.1 i).stakes) ∙ not_in_without q h.stakes

duty_out : (h : Holder) (d : Duty) (p : ℕ) (k : Holder) → stake_ended h d ≡ Some (p, k) → is_in p k.stakes ≡ false
duty_out h (Create n) p k e = absurd (no_pair (p, k) e)
duty_out h (Share n) p k e = absurd (no_pair (p, k) e)
duty_out h (Protect n) p k e = absurd (no_pair (p, k) e)
duty_out h (Unprotect n) p k e = absurd (no_pair (p, k) e)
duty_out h (Remove n) p k e =
    let left : Holder = record h { environments = with_top h.environments (unbind (top_names h.environments) n) } in
    let y = chained (ended left) (bound (top_names h.environments) n) (p, k) e in ended_out left y.0 p k y.2
duty_out h (EndBase r) p k e = ended_out (record h { base = removed_once r h.base }) r p k e

pub stake_ends : StakeEnds
stake_ends c slot k e = by c.frame.holder.duties e
  where
    by : (ds : List Duty) → by_first stake_ended c.frame.holder ds ≡ Some (slot, k) → is_in slot k.stakes ≡ false
    by [] e = absurd (no_pair (slot, k) e)
    by (d ∷ ds) e = duty_out (record c.frame.holder { duties = ds }) d slot k e

-- ---- at the end

no_frames : (code : Code) (addresses : List ℕ) (frames : List TacFrame) (ws : List WordFrame) → ws ≡ [] → FramesShow code addresses frames ws
    → frames ≡ []
no_frames code addresses [] ws e sh = refl
no_frames code addresses (frame ∷ frames) [] e sh = absurd sh
no_frames code addresses (frame ∷ frames) (w ∷ ws) e sh = absurd (clash e)
  where
    clash : w ∷ ws ≡ [] → ⊥
    clash q = cc

no_ends : (base : List Region) → [] ≡ map EndBase base → base ≡ []
no_ends [] e = refl
no_ends (r ∷ base) e = cc

no_more : {X : Type 0} (xs : List X) → length xs ≡ 0 → xs ≡ []
no_more [] e = refl
no_more (y ∷ xs) e = absurd (omega (arith, e))

module _ {T : Setup} {g : ℕ} {c : Record} (x : Situation T g c) (gone : c.frame.frames ≡ []) (none : c.frame.holder.duties ≡ []) where
  abbrev AtEnd : Type 0
  AtEnd = (c.frame.holder.stakes ≡ []) × (c.frame.holder.environments ≡ []) × (c.frame.holder.base ≡ [])

  at_end_shown : Shown x (fitted x).frames (fitted x).h → AtEnd
  at_end_shown y =
      let f = fitted x in
      let empty : f.frames ≡ [] = no_frames T.code (I x).addresses f.frames c.frame.frames gone y.shown in
      let duties : f.h.duties ≡ [] = no_duties (I x).places.slot f.h.duties (ap (λ (k : Holder). k.duties) (sym y.holder) ∙ none) in
      let stakes : f.h.stakes ≡ [] = (stakes_counted T.code x.s x.core.sound.good.good.fine).ended g f.h f.there
      (ap frames_in f.at ∙ empty, duties) in
      let many = as_many_environments x in
      let zero : length c.frame.holder.environments ≡ 0 = many ∙ ap length gone in
      let good = good_holder x f.frames f.h f.at f.there in
      let base : f.h.base ≡ [] = by f.frames f.h.environments f.h.duties empty duties good.fit in (
        ap (λ (k : Holder). k.stakes) y.holder ∙ ap (map (I x).places.slot) stakes,
        no_more c.frame.holder.environments zero,
        ap (λ (k : Holder). k.base) y.holder ∙ ap (map (slotted_region (I x).places.slot)) base,
      )
    where
      by : (frames : List TacFrame) (es : List RegionEnvironment) (ds : List Duty) → frames ≡ [] → ds ≡ []
          → FramesFit T.code (fitted x).h.base frames es ds → (fitted x).h.base ≡ []
      by [] [] ds e d fit = no_ends (fitted x).h.base (sym d ∙ fit)
      by [] (e ∷ es) ds q d fit = absurd fit
      by (frame ∷ frames) es ds q d fit = absurd (clash q)
        where
          clash : frame ∷ frames ≡ [] → ⊥
          clash z = cc

  at_end_past : Past x (fitted x).frames (fitted x).h → AtEnd
  at_end_past y = absurd (subst (FramesShow T.code (I x).addresses (y.frame ∷ y.callers)) gone y.shown.shown)

  pub at_end : AtEnd
  at_end = ⊎_elim at_end_shown at_end_past (fitted x).fits

pub no_stake_at_end : NoStakeAtEnd
no_stake_at_end T g c x gone none = at_end x gone none
