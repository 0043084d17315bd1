-- Duties that remove a region or end a protection that it has had since the start. They share the tests and what follows the end of a
-- stake: that nothing of the holding leads to the slot any more, which is the hard part.
use Rattle.std.proofs.Common.{◌≡◌, ◌≢◌, ◌++◌, ◌<◌, ◌||◌, ℕ, suc, Bool, true, false, List, [], ◌∷◌, Option, Some, None, refl, sym, ap, ◌∙◌, subst, if◌then◌else◌, map, slice_get, option_and_then, drop, true≢false}
use Rattle.std.proofs.lemmas.Option.{same_Some, some_pair_parts}
use Rattle.std.specs.List.{list_any}
use Rattle.rgo_core.specs.Core.{Situation, Setup}
use Rattle.rgo_core.specs.Records.{Record, accessed}
use Rattle.rgo_core.specs.moves.Regions.{left_stake}
use Rattle.rgo_core_facts.proofs.ControlDuties.{duties_at_end}
use Rattle.rgo_core_facts.proofs.ControlRegions.{nothing_kept, stake_ends}
use Rattle.rgo_core_facts.proofs.ControlSteps.{duty_laws}
use Rattle.rgo_core_facts.specs.ControlDuties.{IsOfBase, IsUnprotected}
use Rattle.rgo_core_facts.specs.ControlRegions.{HasNothingOf, IsStaked}
use Rattle.rgo_core_facts.specs.ControlSteps.{IsNameOf, unbased, unnamed}
use Rattle.rgo_core.specs.Frames.steps.Local.{local_duty}
use Rattle.rgo_core.specs.Frames.regions.Stakes.{ended, stake_ended}
use Rattle.rgo_core.specs.Memory.Records.{Fill, dropped, without_slot}
use Rattle.rgo_core_steps.specs.Counts.{by_first, ending}
use Rattle.rgo_holding.specs.Changes as changes
use Rattle.rgo_holding.specs.Holds.{IsHoldingOf, region_of_key}
use Rattle.rgo_holding.specs.declared.holding.Holding.{Holding}
use Rattle.rgo_holding.specs.declared.keys.Key.{Key}
use Rattle.rgo_sound.specs.RegionMachine.Duties.{guards}
use Rattle.rgo_sound.specs.RegionMachine.Regions.{bound, removed_once, same_region, without}
use Rattle.rgo_sound.specs.RegionMachine.States.{Create, Duty, EndBase, RegionEnvironment, Holder, Protect, Remove, Share, Unprotect}
use Rattle.rgo_sound.specs.RegionMachine.declared.regions.Region.{Region}
use Rattle.rgo_sound.specs.RegionMachine.declared.regions.Region.TheVariants.{Global as GlobalRegion, Numbered}
use Rattle.rgo_sound.proofs.duties.Attends.{same_reflexive}
use Rattle.rgo_sound.specs.Stakes.{is_in}
use Rattle.rgo_body.specs.Duties.{DoesLocal, Forgets, StakeHasEnded, LeavesIn, OwesFirst, is_kept}
use Rattle.rgo_body.specs.Programs.{CompactProgram}
use Rattle.rgo_body.specs.Queues.{duty_of}
use Rattle.rgo_body.specs.Shows.{BodyIsPossible, BodyShows}
use Rattle.rgo_body.specs.declared.bodies.Body.{Body}
use Rattle.rgo_body.specs.declared.bodies.Side.TheVariants as side
use Rattle.rgo_body.specs.declared.queues.Duty.{Duty as DutyOf}
use Rattle.rgo_body.specs.declared.queues.Duty.TheVariants as duty
use Rattle.rgo_body.proofs.Attending.{IsKeyOf, attended, does_local, done_shows, first, later, top_bound}
use Rattle.rgo_body.proofs.Sharing.{its_region}

-- ---- the base

base_head : (r q : Region) (rs qs : List Region) → r ∷ rs ≡ q ∷ qs → r ≡ q
base_head r q rs qs e = cc

base_tail : (r q : Region) (rs qs : List Region) → r ∷ rs ≡ q ∷ qs → rs ≡ qs
base_tail r q rs qs e = cc

no_base : (r : Region) (rs : List Region) → ◌≡◌ {A = List Region} [] (r ∷ rs) → ⊥
no_base r rs e = cc

pub ends_rest : (k l : Holding) (o : Option Key) → changes.HoldingEndsBase k l o → (slots : ℕ) (h : Holder) (fills : List Fill) (r : Region)
    (rest : List Region) → IsHoldingOf slots k h fills → h.base ≡ r ∷ rest → IsHoldingOf slots l (record h { base = rest }) fills
ends_rest k l None ends slots h fills r rest holds is = absurd (no_base r rest (sym (ends slots h fills holds).0 ∙ is))
ends_rest k l (Some key) ends slots h fills r rest holds is =
    let x = ends slots h fills holds in
    subst (λ rs. IsHoldingOf slots l (record h { base = rs }) fills) (base_tail x.0 r x.1 rest (sym x.3 ∙ is)) x.4

removed_first : (r : Region) (rest : List Region) → removed_once r (r ∷ rest) ≡ rest
removed_first r rest = ap (λ t. if t then rest else r ∷ removed_once r rest) (same_reflexive r)

first_end : (r q : Region) (ds : List Duty) (base rest : List Region) → EndBase r ∷ ds ≡ map EndBase base → base ≡ q ∷ rest → q ≡ r
first_end r q ds [] rest e is = absurd (no_base q rest is)
first_end r q ds (s ∷ base) rest e is = let a : s ≡ q = base_head s q base rest is in
    let b : s ≡ r = number e in sym a ∙ b
  where
    number : EndBase r ∷ ds ≡ EndBase s ∷ map EndBase base → s ≡ r
    number e = cc

-- the first region of the base is the one whose protection ends
pub its_base : (T : Setup) (g : ℕ) (c : Record) (r q : Region) (ds : List Duty) (rest : List Region) → Situation T g c
    → c.frame.holder.duties ≡ EndBase r ∷ ds → IsOfBase T c r → c.frame.holder.base ≡ q ∷ rest → q ≡ r
its_base T g c r q ds rest here owed a is =
    first_end r q ds c.frame.holder.base rest (sym owed ∙ duties_at_end T g c here a.frames) is

-- ---- which holders

local_remove : (h : Holder) (name : ℕ) (r : Region) → IsNameOf h name r → is_kept h.base h.environments r ≡ true
    → local_duty h (Remove name) ≡ Some (unnamed h name)
local_remove h name GlobalRegion n l = duty_laws.remove_global h name n
local_remove h name (Numbered q) n l = duty_laws.remove_guarded h name q n l

local_end : (h : Holder) (r : Region) → is_kept (removed_once r h.base) h.environments r ≡ true
    → local_duty h (EndBase r) ≡ Some (unbased h r)
local_end h GlobalRegion l = duty_laws.end_global h
local_end h (Numbered q) l = duty_laws.end_guarded h q l

record Unkept (r : Region) : Type 0 where
  slot : ℕ
  is : r ≡ Numbered slot

not_kept : (base : List Region) (es : List RegionEnvironment) (r : Region) → is_kept base es r ≡ false → Unkept r
not_kept base es GlobalRegion l = absurd (true≢false l)
not_kept base es (Numbered q) l = record { slot = q; is = refl }

-- ---- a name is removed

module _ (p : CompactProgram) (b e : Body) (name : ℕ) (key : Key) (keyed : IsKeyOf b.holding (Some key) name) where
  abbrev pub TellsKept : Bool → Type 0
  TellsKept kept = (slots : ℕ) (h : Holder) (fills : List Fill) (r : Region) → IsHoldingOf slots b.holding h fills
      → region_of_key b.holding key ≡ Some r → kept ≡ is_kept h.base h.environments r

  pub removes_none : (ds : List Duty) (queue : b.queue.duties ≡ Remove name ∷ ds) (done : e.queue.duties ≡ ds)
      (is : e ≡ record b { queue = e.queue; holding = e.holding; counts = e.counts }) → b.side ≡ side.AtRest → e.counts ≡ b.counts
      → ((slots : ℕ) (h : Holder) (fills : List Fill) → IsHoldingOf slots b.holding h fills → IsHoldingOf slots e.holding (changes.without_name h name) fills)
      → TellsKept true → DoesLocal p b e
  removes_none ds queue done is rests counts holds kept = does_local p b e (Remove name) ds queue done is rests counts
      (λ T g c here s.
      let n : IsUnprotected T c name = attended T p b c (Remove name) ds s queue g here in
      record {
        after = unnamed (record c.frame.holder { duties = ds ++ later p.code b }) name;
        does = local_remove (record c.frame.holder { duties = ds ++ later p.code b }) name n.named.region (top_bound T c name n.named)
            (sym (kept T.sizes.regions c.frame.holder c.memory.fills n.named.region s.holds (its_region p b e name key keyed T c s n.named)));
        duties = refl;
        offer = refl;
        holds = holds T.sizes.regions c.frame.holder c.memory.fills s.holds;
      })

  pub leaves_in : (ds : List Duty) → b.queue.duties ≡ Remove name ∷ ds → BodyIsPossible p b → TellsKept false → LeavesIn p b key
  leaves_in ds queue possible kept =
      let n0 : IsUnprotected possible.T possible.c name =
      attended possible.T p b possible.c (Remove name) ds possible.shows queue possible.goroutine possible.here in
      let r0 = its_region p b e name key keyed possible.T possible.c possible.shows n0.named in
      let u = not_kept possible.c.frame.holder.base possible.c.frame.holder.environments n0.named.region
      (sym (kept possible.T.sizes.regions possible.c.frame.holder possible.c.memory.fills n0.named.region possible.shows.holds r0)) in
      let at : region_of_key b.holding key ≡ Some (Numbered u.slot) = r0 ∙ ap Some u.is in
      record {
        slot = u.slot;
        region = at;
        ends = λ T g c here s.
            let n : IsUnprotected T c name = attended T p b c (Remove name) ds s queue g here in
            let same : n.named.region ≡ Numbered u.slot =
            same_Some n.named.region (Numbered u.slot) (sym (its_region p b e name key keyed T c s n.named) ∙ at) in
            let h : Holder = record c.frame.holder { duties = ds ++ later p.code b } in (
              record (unnamed h name) { stakes = without u.slot h.stakes },
              ap (by_first stake_ended c.frame.holder) (first T p b c (Remove name) ds s queue)
                  ∙ duty_laws.remove_last h name u.slot (top_bound T c name n.named ∙ ap Some same)
                  (sym (kept T.sizes.regions c.frame.holder c.memory.fills (Numbered u.slot) s.holds at)),
            );
      }

-- ---- a protection since the start ends

-- the key of the first region of the base, whatever the record
abbrev pub IsFirstBase : Holding → Key → Type 0
IsFirstBase H key = (slots : ℕ) (h : Holder) (fills : List Fill) → IsHoldingOf slots H h fills
    → (r : Region) × (rest : List Region) × (region_of_key H key ≡ Some r) × (h.base ≡ r ∷ rest)

module _ (p : CompactProgram) (b e : Body) (region : Region) (key : Key) (keyed : IsFirstBase b.holding key) where
  abbrev pub TellsKeptBase : Bool → Type 0
  TellsKeptBase kept = (slots : ℕ) (h : Holder) (fills : List Fill) (r : Region) (rest : List Region) → IsHoldingOf slots b.holding h fills
      → region_of_key b.holding key ≡ Some r → h.base ≡ r ∷ rest → kept ≡ is_kept rest h.environments r

  -- what the first region of the base is, whatever the record
  record FirstOf (T : Setup) (c : Record) : Type 0 where
    rest : List Region
    at : region_of_key b.holding key ≡ Some region
    base : c.frame.holder.base ≡ region ∷ rest

  first_of_base : (ds : List Duty) → b.queue.duties ≡ EndBase region ∷ ds → (T : Setup) (g : ℕ) (c : Record) → Situation T g c
      → BodyShows T p b c → FirstOf T c
  first_of_base ds queue T g c here s =
      let a : IsOfBase T c region = attended T p b c (EndBase region) ds s queue g here in
      let k = keyed T.sizes.regions c.frame.holder c.memory.fills s.holds in
      let same = its_base T g c region k.0 (ds ++ later p.code b) k.1 here (first T p b c (EndBase region) ds s queue) a k.3 in
      record { rest = k.1; at = k.2 ∙ ap Some same; base = k.3 ∙ ap (λ r. r ∷ k.1) same }

  is_kept_so : (kept : Bool) → TellsKeptBase kept → (T : Setup) (c : Record) → BodyShows T p b c → (f : FirstOf T c)
      → is_kept (removed_once region c.frame.holder.base) c.frame.holder.environments region ≡ kept
  is_kept_so kept told T c s f =
      ap (λ rs. is_kept rs c.frame.holder.environments region) (ap (removed_once region) f.base ∙ removed_first region f.rest)
      ∙ sym (told T.sizes.regions c.frame.holder c.memory.fills region f.rest s.holds f.at f.base)

  pub ends_none : (ds : List Duty) (queue : b.queue.duties ≡ EndBase region ∷ ds) (done : e.queue.duties ≡ ds)
      (is : e ≡ record b { queue = e.queue; holding = e.holding; counts = e.counts }) → b.side ≡ side.AtRest → e.counts ≡ b.counts
      → ((slots : ℕ) (h : Holder) (fills : List Fill) (r : Region) (rest : List Region) → IsHoldingOf slots b.holding h fills → h.base ≡ r ∷ rest
      → IsHoldingOf slots e.holding (record h { base = rest }) fills)
      → TellsKeptBase true → DoesLocal p b e
  ends_none ds queue done is rests counts holds kept = does_local p b e (EndBase region) ds queue done is rests counts
      (λ T g c here s.
      let f = first_of_base ds queue T g c here s in
      record {
        after = unbased (record c.frame.holder { duties = ds ++ later p.code b }) region;
        does = local_end (record c.frame.holder { duties = ds ++ later p.code b }) region (is_kept_so true kept T c s f);
        duties = refl;
        offer = refl;
        holds = subst (λ rs. IsHoldingOf T.sizes.regions e.holding (record c.frame.holder { base = rs }) c.memory.fills)
            (sym (ap (removed_once region) f.base ∙ removed_first region f.rest))
            (holds T.sizes.regions c.frame.holder c.memory.fills region f.rest s.holds f.base);
      })

  stakes_end : (h : Holder) (slot : ℕ) → region ≡ Numbered slot → is_kept (removed_once region h.base) h.environments region ≡ false
      → stake_ended h (EndBase region) ≡ Some (slot, record (unbased h region) { stakes = without slot h.stakes })
  stakes_end h slot is l =
      ap (λ r. stake_ended h (EndBase r)) is
      ∙ duty_laws.end_last h slot (ap (λ r. is_kept (removed_once r h.base) h.environments r) (sym is) ∙ l)
      ∙ ap (λ r. Some (slot, record (unbased h r) { stakes = without slot h.stakes })) (sym is)

  pub base_leaves_in : (ds : List Duty) → b.queue.duties ≡ EndBase region ∷ ds → BodyIsPossible p b → TellsKeptBase false → LeavesIn p b key
  base_leaves_in ds queue possible kept =
      let f0 = first_of_base ds queue possible.T possible.goroutine possible.c possible.here possible.shows in
      let u = not_kept (removed_once region possible.c.frame.holder.base) possible.c.frame.holder.environments region
      (is_kept_so false kept possible.T possible.c possible.shows f0) in
      record {
        slot = u.slot;
        region = f0.at ∙ ap Some u.is;
        ends = λ T g c here s.
            let f = first_of_base ds queue T g c here s in
            let h : Holder = record c.frame.holder { duties = ds ++ later p.code b } in (
              record (unbased h region) { stakes = without u.slot h.stakes },
              ap (by_first stake_ended c.frame.holder) (first T p b c (EndBase region) ds s queue)
                  ∙ stakes_end h u.slot u.is (is_kept_so false kept T c s f),
            );
      }

pub no_first_base : (p : CompactProgram) (b : Body) (region : Region) → BodyIsPossible p b → OwesFirst b (EndBase region)
    → ((slots : ℕ) (h : Holder) (fills : List Fill) → IsHoldingOf slots b.holding h fills → h.base ≡ []) → ⊥
no_first_base p b region possible owes none =
    let a : IsOfBase possible.T possible.c region =
    attended possible.T p b possible.c (EndBase region) owes.0 possible.shows owes.1 possible.goroutine possible.here in
    let empty = none possible.T.sizes.regions possible.c.frame.holder possible.c.memory.fills possible.shows.holds in
    true≢false (sym a.base ∙ ap (list_any (same_region region)) empty)

-- ---- after a stake has ended

no_pair : (y : ℕ × Holder) → ◌≡◌ {A = Option (ℕ × Holder)} None (Some y) → ⊥
no_pair y e = cc

pub record Ended (h : Holder) (r : Region) (slot : ℕ) (k : Holder) : Type 0 where
  pub region : r ≡ Numbered slot
  pub after : k ≡ record h { stakes = without slot h.stakes }

pub ended_is : (h : Holder) (r : Region) (slot : ℕ) (k : Holder) → ended h r ≡ Some (slot, k) → Ended h r slot k
ended_is h GlobalRegion slot k e = absurd (no_pair (slot, k) e)
ended_is h (Numbered q) slot k e = by (guards h.base h.environments (Numbered q)) e
  where
    by : (t : Bool) → ◌≡◌ {A = Option (ℕ × Holder)} (if t then None else Some (q, record h { stakes = without q h.stakes })) (Some (slot, k))
        → Ended h (Numbered q) slot k
    by true e = absurd (no_pair (slot, k) e)
    by false e =
        let z = some_pair_parts q slot (record h { stakes = without q h.stakes }) k e in record {
          region = ap Numbered z.0;
          after = sym z.1 ∙ ap (λ n. record h { stakes = without n h.stakes }) z.0;
        }

-- nothing is left of the slot
unnamed_from : (slot : ℕ) (es : List RegionEnvironment)
    → ((i : ℕ) (e : RegionEnvironment) → slice_get es i ≡ Some e → (k : ℕ) → bound e.names k ≢ Some (Numbered slot))
    → changes.IsUnboundRegion (Numbered slot) es
unnamed_from slot [] none = tt
unnamed_from slot (e ∷ es) none = (none 0 e refl, unnamed_from slot es (λ i f at. none (suc i) f at))

pub unguarded_from : (slot : ℕ) (base : List Region) (es : List RegionEnvironment) → list_any (same_region (Numbered slot)) base ≡ false
    → ((i : ℕ) (e : RegionEnvironment) → slice_get es i ≡ Some e → list_any (same_region (Numbered slot)) e.protections ≡ false)
    → guards base es (Numbered slot) ≡ false
unguarded_from slot base [] none each = none
unguarded_from slot base (e ∷ es) none each =
    ap (λ t. t || guards base es (Numbered slot)) (each 0 e refl) ∙ unguarded_from slot base es none (λ i f at. each (suc i) f at)

pub unknown_from : (c : Record) (slot : ℕ) → HasNothingOf c slot → changes.IsUnknown c.frame.holder slot
unknown_from c slot n = record {
  unnamed = unnamed_from slot c.frame.holder.environments (λ i e at k. n.names e k (i, at));
  unguarded = unguarded_from slot c.frame.holder.base c.frame.holder.environments n.base (λ i e at. n.protections e (i, at));
}

-- the slot of the table
pub staked_slot : (T : Setup) (c : Record) (r : Region) (slot : ℕ) → IsStaked T c r → r ≡ Numbered slot → slot < T.sizes.regions
staked_slot T c r slot st is = (subst (IsStaked T c) is st).1

module _ (T : Setup) (p : CompactProgram) (b d : Body) (g : ℕ) (c x : Record) (slot : ℕ) (k : Holder) (here : Situation T g c) (s : BodyShows T p b c)
    (ends : ending c ≡ Some (slot, k)) (there : Situation T g x) (same : x.frame ≡ (left_stake c k slot).frame)
    (ds : List Duty) (done : d.queue.duties ≡ ds)
    (is : d ≡ record b { queue = d.queue; holding = d.holding; counts = d.counts }) (counts : d.counts ≡ b.counts) where
  -- the holding after names and protections are as the duty leaves them, of which the entry of the slot is then given up
  module _ (mid : Holding) (key : Key) (at : region_of_key mid key ≡ Some (Numbered slot))
      (gives : (slots : ℕ) (h : Holder) (fills : List Fill) (q : ℕ) → IsHoldingOf slots mid h fills → region_of_key mid key ≡ Some (Numbered q)
      → changes.IsUnknown h q → IsHoldingOf slots d.holding (changes.ending_stake h q) (dropped q fills)) where
    shows_after : (first_duty : Duty) (queue : b.queue.duties ≡ first_duty ∷ ds) (h : Holder)
        → k ≡ record h { stakes = without slot h.stakes } → h.duties ≡ ds ++ later p.code b → h.offer ≡ c.frame.holder.offer
        → slot < T.sizes.regions
        → IsHoldingOf T.sizes.regions mid h c.memory.fills → BodyShows T p d (left_stake c k slot)
    shows_after first_duty queue h after duties offer low holds =
        let out : is_in slot k.stakes ≡ false = stake_ends c slot k ends in
        let holder : x.frame.holder ≡ k = ap (λ (f : _). f.holder) same in
        let none = nothing_kept T g x there slot low (ap (λ (y : Holder). is_in slot y.stakes) holder ∙ out) in
        let unknown : changes.IsUnknown h slot = (let u = subst (λ (y : Holder). changes.IsUnknown y slot) (holder ∙ after) (unknown_from x slot none) in
        record { unnamed = u.unnamed; unguarded = u.unguarded }) in
        done_shows T p b c first_duty ds s queue d done is k (accessed c.clock) (without_slot c.memory slot) refl
        (ap (λ (y : Holder). y.duties) after ∙ duties) (ap (λ (y : Holder). y.offer) after ∙ offer)
        (subst (λ (y : Holder). IsHoldingOf T.sizes.regions d.holding y (dropped slot c.memory.fills)) (sym after)
        (gives T.sizes.regions h c.memory.fills slot holds at unknown))
        record { make = s.calm.make; claim = s.calm.claim; give = s.calm.give; none = s.calm.none } (s.share ∙ sym counts) refl refl

    first_ends : (first_duty : Duty) (queue : b.queue.duties ≡ first_duty ∷ ds)
        → stake_ended (record c.frame.holder { duties = ds ++ later p.code b }) first_duty ≡ Some (slot, k)
    first_ends first_duty queue = sym (ap (by_first stake_ended c.frame.holder) (first T p b c first_duty ds s queue)) ∙ ends

    pub leaves_shows : (first_duty : DutyOf) (queue : b.queue.duties ≡ duty_of first_duty ∷ ds)
        → Forgets b.holding mid first_duty → BodyShows T p d (left_stake c k slot)
    leaves_shows (duty.Remove name) queue forgets =
        let n : IsUnprotected T c name = attended T p b c (Remove name) ds s queue g here in
        let h : Holder = unnamed (record c.frame.holder { duties = ds ++ later p.code b }) name in
        let z = ended_is h n.named.region slot k (sym (ap (option_and_then (ended h)) (top_bound T c name n.named)) ∙ first_ends (Remove name) queue) in
        shows_after (Remove name) queue h z.after refl refl (staked_slot T c n.named.region slot n.named.staked z.region)
        (forgets T.sizes.regions c.frame.holder c.memory.fills s.holds)
    leaves_shows (duty.EndBase r) queue forgets =
        let a : IsOfBase T c r = attended T p b c (EndBase r) ds s queue g here in
        let h : Holder = unbased (record c.frame.holder { duties = ds ++ later p.code b }) r in
        let z = ended_is h r slot k (first_ends (EndBase r) queue) in
        let f = some_base c.frame.holder.base r (sym (first T p b c (EndBase r) ds s queue) ∙ duties_at_end T g c here a.frames) in
        shows_after (EndBase r) queue h z.after refl refl (staked_slot T c r slot a.staked z.region)
        (subst (λ rs. IsHoldingOf T.sizes.regions mid (record c.frame.holder { base = rs }) c.memory.fills)
        (sym (ap (removed_once r) f.1 ∙ removed_first r f.0))
        (forgets T.sizes.regions c.frame.holder c.memory.fills r f.0 s.holds f.1))
      where
        some_base : (base : List Region) (r : Region) → {rest : List Duty} → EndBase r ∷ rest ≡ map EndBase base
            → (others : List Region) × (base ≡ r ∷ others)
        some_base [] r e = cc
        some_base (q ∷ base) r e = (base, ap (λ y. y ∷ base) (number e))
          where
            number : {rest : List Duty} → EndBase r ∷ rest ≡ EndBase q ∷ map EndBase base → q ≡ r
            number e = cc
    leaves_shows (duty.Create name) queue forgets = absurd (no_pair (slot, k) (first_ends (Create name) queue))
    leaves_shows (duty.Share name) queue forgets = absurd (no_pair (slot, k) (first_ends (Share name) queue))
    leaves_shows (duty.Protect name) queue forgets = absurd (no_pair (slot, k) (first_ends (Protect name) queue))
    leaves_shows (duty.Unprotect name) queue forgets = absurd (no_pair (slot, k) (first_ends (Unprotect name) queue))

-- the duty that came first in the queue is that which it owes first
first_is : (b : Body) (d : Duty) (ds : List Duty) (first_duty : DutyOf) (others : List Duty) → b.queue.duties ≡ d ∷ ds
    → b.queue.duties ≡ duty_of first_duty ∷ others → b.queue.duties ≡ duty_of first_duty ∷ ds
first_is b d ds first_duty others queue is = is ∙ ap (λ (l : List Duty). duty_of first_duty ∷ drop 1 l) (sym is ∙ queue)

pub leaves_after : (p : CompactProgram) (b d : Body) (key : Key) (l : LeavesIn p b key) (duty_now : Duty) (ds : List Duty) (mid : Holding)
    → b.queue.duties ≡ duty_now ∷ ds → d.queue.duties ≡ ds
    → d ≡ record b { queue = d.queue; holding = d.holding; counts = d.counts } → d.counts ≡ b.counts
    → (f : DutyOf) → (others : List Duty) × (b.queue.duties ≡ duty_of f ∷ others)
    → Forgets b.holding mid f → changes.SameRegions b.holding mid
    → ((slots : ℕ) (h : Holder) (fills : List Fill) (q : ℕ) → IsHoldingOf slots mid h fills → region_of_key mid key ≡ Some (Numbered q)
    → changes.IsUnknown h q → IsHoldingOf slots d.holding (changes.ending_stake h q) (dropped q fills))
    → StakeHasEnded p b d
leaves_after p b d key l duty_now ds mid queue done is counts f first_duty forgets regions gives T g c x slot k here s ends there same =
    let z = l.ends T g c here s in
    let slot_is : slot ≡ l.slot = (some_pair_parts slot l.slot k z.0 (sym ends ∙ z.1)).0 in
    leaves_shows T p b d g c x slot k here s ends there same ds done is counts mid key
    (regions key ∙ l.region ∙ ap (λ n. Some (Numbered n)) (sym slot_is)) gives f
    (first_is b duty_now ds f first_duty.0 queue first_duty.1) forgets

pub no_duty : (b : Body) (d : Duty) (ds : List Duty) → b.queue.duties ≡ d ∷ ds → b.queue.duties ≡ [] → ⊥
no_duty b d ds queue none = never (sym none ∙ queue)
  where
    never : ◌≡◌ {A = List Duty} [] (d ∷ ds) → ⊥
    never e = cc
