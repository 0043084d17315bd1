-- Duties that protect a region, end a protection, or take a stake for a coming child. That each name has a key is region safety: a
-- possible record never owes a duty of a name without a region.
use Rattle.std.proofs.Common.{◌≡◌, ◌++◌, ◌<◌, ℕ, Bool, true, false, List, ◌∷◌, Option, Some, None, refl, sym, ap, ◌∙◌, subst, if◌then◌else◌, length, nat_eq, option_and_then, true≢false}
use Rattle.std.proofs.lemmas.Option.{same_Some, some_pair_parts}
use Rattle.std.specs.List.{list_any}
use Rattle.std.specs.Option.{option_map_or}
use Rattle.rgo_core.specs.Core.{Situation, Setup}
use Rattle.rgo_core.specs.Records.{Record, accessed}
use Rattle.rgo_core.specs.moves.Regions.{with_holder}
use Rattle.rgo_core_facts.proofs.ControlSteps.{duty_laws}
use Rattle.rgo_core_facts.specs.ControlDuties.{CanAttend, NameIsBound, IsProtected}
use Rattle.rgo_core_facts.specs.ControlSteps.{IsNameOf}
use Rattle.rgo_core.specs.Frames.steps.Local.{local_duty}
use Rattle.rgo_core.specs.Frames.regions.Stakes.{shared_in, stake_shared}
use Rattle.rgo_core.specs.Memory.Records.{Fill}
use Rattle.rgo_core_steps.specs.Counts.{by_first, shared_record, sharing}
use Rattle.rgo_holding.specs.Changes as changes
use Rattle.rgo_holding.specs.Holds.{IsHoldingOf, region_of_key}
use Rattle.rgo_holding.specs.declared.keys.Key.{Key}
use Rattle.rgo_sound.specs.RegionMachine.Duties.{unprotected, with_protection, without_protection}
use Rattle.rgo_sound.specs.RegionMachine.Regions.{bound, same_region}
use Rattle.rgo_sound.specs.RegionMachine.States.{Duty, Holder, Protect, Share, Unprotect, top_names}
use Rattle.rgo_sound.specs.RegionMachine.declared.regions.Region.{Region}
use Rattle.rgo_sound.specs.RegionMachine.declared.regions.Region.TheVariants.{Global as GlobalRegion, Numbered}
use Rattle.rgo_body.specs.Duties.{DoesLocal, OwesFirst, SharesIn, has_share}
use Rattle.rgo_body.specs.Programs.{CompactProgram}
use Rattle.rgo_body.specs.Shows.{BodyIsPossible, BodyShows}
use Rattle.rgo_body.specs.declared.bodies.Body.{Body}
use Rattle.rgo_body.specs.declared.bodies.Side.TheVariants as side
use Rattle.rgo_body.proofs.Attending.{IsKeyOf, attended, does_local, done_shows, first, later, no_key, some_environment, some_key, top_bound}

module _ (p : CompactProgram) (b e : Body) (name : ℕ) (key : Key) (keyed : IsKeyOf b.holding (Some key) name) where
  -- the region of the key, whatever the record
  pub its_region : (T : Setup) (c : Record) (s : BodyShows T p b c) (n : NameIsBound T c name) → region_of_key b.holding key ≡ Some n.region
  its_region T c s n = some_key b.holding key (bound (top_names c.frame.holder.environments) name) n.region
      (keyed T.sizes.regions c.frame.holder c.memory.fills s.holds) (top_bound T c name n)

  -- ---- protections

  pub protects : (ds : List Duty) (queue : b.queue.duties ≡ Protect name ∷ ds) (done : e.queue.duties ≡ ds)
      (is : e ≡ record b { queue = e.queue; holding = e.holding; counts = e.counts }) → b.side ≡ side.AtRest → e.counts ≡ b.counts
      → ((slots : ℕ) (h : Holder) (fills : List Fill) (r : Region) → IsHoldingOf slots b.holding h fills → region_of_key b.holding key ≡ Some r
      → 0 < length h.environments → IsHoldingOf slots e.holding (changes.protecting h r) fills)
      → DoesLocal p b e
  protects ds queue done is rests counts holds = does_local p b e (Protect name) ds queue done is rests counts
      (λ T g c here s.
      let n : NameIsBound T c name = attended T p b c (Protect name) ds s queue g here in
      record {
        after = record c.frame.holder {
          duties = ds ++ later p.code b;
          environments = with_protection c.frame.holder.environments n.region;
        };
        does = duty_laws.protect (record c.frame.holder { duties = ds ++ later p.code b }) name n.region (top_bound T c name n);
        duties = refl;
        offer = refl;
        holds = holds T.sizes.regions c.frame.holder c.memory.fills n.region s.holds (its_region T c s n)
            (some_environment c n.e n.newest);
      })

  protected_last : (T : Setup) (c : Record) (n : IsProtected T c name) → changes.IsProtectedLast c.frame.holder n.named.region
  protected_last T c n =
      ap (λ es. list_any (same_region n.named.region) (changes.top_protections es)) n.named.newest.environments ∙ n.protected

  pub unprotects : (ds : List Duty) (queue : b.queue.duties ≡ Unprotect name ∷ ds) (done : e.queue.duties ≡ ds)
      (is : e ≡ record b { queue = e.queue; holding = e.holding; counts = e.counts }) → b.side ≡ side.AtRest → e.counts ≡ b.counts
      → ((slots : ℕ) (h : Holder) (fills : List Fill) (r : Region) → IsHoldingOf slots b.holding h fills → region_of_key b.holding key ≡ Some r
      → changes.IsProtectedLast h r → IsHoldingOf slots e.holding (unprotected h r) fills)
      → DoesLocal p b e
  unprotects ds queue done is rests counts holds = does_local p b e (Unprotect name) ds queue done is rests counts
      (λ T g c here s.
      let n : IsProtected T c name = attended T p b c (Unprotect name) ds s queue g here in
      record {
        after = record c.frame.holder {
          duties = ds ++ later p.code b;
          environments = without_protection c.frame.holder.environments n.named.region;
        };
        does = duty_laws.unprotect (record c.frame.holder { duties = ds ++ later p.code b }) name n.named.region (top_bound T c name n.named);
        duties = refl;
        offer = refl;
        holds = holds T.sizes.regions c.frame.holder c.memory.fills n.named.region s.holds (its_region T c s n.named)
            (protected_last T c n);
      })

  -- ---- stakes for a child

  local_share : (h : Holder) (r : Region) → IsNameOf h name r → has_share h.pending r ≡ true → local_duty h (Share name) ≡ Some h
  local_share h GlobalRegion n l = duty_laws.share_global h name n
  local_share h (Numbered q) n l = duty_laws.share_again h name q n l

  -- the test of whether one is to be taken
  abbrev pub TellsShare : Bool → Type 0
  TellsShare has = (slots : ℕ) (h : Holder) (fills : List Fill) (r : Region) → IsHoldingOf slots b.holding h fills
      → region_of_key b.holding key ≡ Some r → has ≡ has_share h.pending r

  pub shares_none : (ds : List Duty) (queue : b.queue.duties ≡ Share name ∷ ds) (done : e.queue.duties ≡ ds)
      (is : e ≡ record b { queue = e.queue; holding = e.holding; counts = e.counts }) → b.side ≡ side.AtRest → e.counts ≡ b.counts
      → e.holding ≡ b.holding → TellsShare true → DoesLocal p b e
  shares_none ds queue done is rests counts same has = does_local p b e (Share name) ds queue done is rests counts
      (λ T g c here s.
      let n : NameIsBound T c name = attended T p b c (Share name) ds s queue g here in
      record {
        after = record c.frame.holder { duties = ds ++ later p.code b };
        does = local_share (record c.frame.holder { duties = ds ++ later p.code b }) n.region (top_bound T c name n)
            (sym (has T.sizes.regions c.frame.holder c.memory.fills n.region s.holds (its_region T c s n)));
        duties = refl;
        offer = refl;
        holds = subst (λ H. IsHoldingOf T.sizes.regions H c.frame.holder c.memory.fills) (sym same) s.holds;
      })

  -- the slot in which one is to be taken
  record Unshared (r : Region) : Type 0 where
    slot : ℕ
    is : r ≡ Numbered slot

  not_shared : (pending : List ℕ) (r : Region) → has_share pending r ≡ false → Unshared r
  not_shared pending GlobalRegion l = absurd (true≢false l)
  not_shared pending (Numbered q) l = record { slot = q; is = refl }

  shares_by : (T : Setup) (c : Record) (ds : List Duty) (slot : ℕ) → c.frame.holder.duties ≡ Share name ∷ ds
      → IsNameOf c.frame.holder name (Numbered slot) → has_share c.frame.holder.pending (Numbered slot) ≡ false
      → sharing c ≡ Some (slot, record c.frame.holder { duties = ds; pending = slot ∷ c.frame.holder.pending })
  shares_by T c ds slot owed n l =
      ap (by_first stake_shared c.frame.holder) owed ∙ duty_laws.share_first (record c.frame.holder { duties = ds }) name slot n l

  pub shares_in : (ds : List Duty) → b.queue.duties ≡ Share name ∷ ds → BodyIsPossible p b → TellsShare false → SharesIn p b key
  shares_in ds queue possible has =
      let n0 : NameIsBound possible.T possible.c name = attended possible.T p b possible.c (Share name) ds possible.shows queue possible.goroutine possible.here in
      let r0 = its_region possible.T possible.c possible.shows n0 in
      let u = not_shared possible.c.frame.holder.pending n0.region
      (sym (has possible.T.sizes.regions possible.c.frame.holder possible.c.memory.fills n0.region possible.shows.holds r0)) in
      let at : region_of_key b.holding key ≡ Some (Numbered u.slot) = r0 ∙ ap Some u.is in
      record {
        slot = u.slot;
        region = at;
        shares = λ T g c here s.
            let n : NameIsBound T c name = attended T p b c (Share name) ds s queue g here in
            let same : n.region ≡ Numbered u.slot = same_Some n.region (Numbered u.slot) (sym (its_region T c s n) ∙ at) in (
              record c.frame.holder { duties = ds ++ later p.code b; pending = u.slot ∷ c.frame.holder.pending },
              shares_by T c (ds ++ later p.code b) u.slot (first T p b c (Share name) ds s queue) (top_bound T c name n ∙ ap Some same)
                  (sym (has T.sizes.regions c.frame.holder c.memory.fills (Numbered u.slot) s.holds at)),
            );
      }

-- no name that is protected or shared is without a key
pub keyed_name : (p : CompactProgram) (b : Body) (name : ℕ) (d : Duty) → OwesFirst b d → BodyIsPossible p b
    → ((T : Setup) (c : Record) → CanAttend T c d → NameIsBound T c name)
    → IsKeyOf b.holding None name → ⊥
keyed_name p b name d owes possible named keyed =
    let n = named possible.T possible.c (attended possible.T p b possible.c d owes.0 possible.shows owes.1 possible.goroutine possible.here) in
    no_key b.holding (bound (top_names possible.c.frame.holder.environments) name) n.region
    (keyed possible.T.sizes.regions possible.c.frame.holder possible.c.memory.fills possible.shows.holds)
    (top_bound possible.T possible.c name n)

-- ---- after the stake is taken

no_pair : (y : ℕ × Holder) → ◌≡◌ {A = Option (ℕ × Holder)} None (Some y) → ⊥
no_pair y e = cc

pub record Took (h : Holder) (r : Region) (slot : ℕ) (k : Holder) : Type 0 where
  pub region : r ≡ Numbered slot
  pub after : k ≡ record h { pending = slot ∷ h.pending }

pub took_in : (h : Holder) (r : Region) (slot : ℕ) (k : Holder) → shared_in h r ≡ Some (slot, k) → Took h r slot k
took_in h GlobalRegion slot k e = absurd (no_pair (slot, k) e)
took_in h (Numbered q) slot k e = by (list_any (nat_eq q) h.pending) e
  where
    by : (t : Bool) → ◌≡◌ {A = Option (ℕ × Holder)} (if t then None else Some (q, record h { pending = q ∷ h.pending })) (Some (slot, k))
        → Took h (Numbered q) slot k
    by true e = absurd (no_pair (slot, k) e)
    by false e =
        let z = some_pair_parts q slot (record h { pending = q ∷ h.pending }) k e in record {
          region = ap Numbered z.0;
          after = sym z.1 ∙ ap (λ n. record h { pending = n ∷ h.pending }) z.0;
        }

pub shared_shows : (T : Setup) (p : CompactProgram) (b e : Body) (g : ℕ) (c : Record) (name : ℕ) (ds : List Duty) (key : Key) → Situation T g c
    → (s : BodyShows T p b c) → (queue : b.queue.duties ≡ Share name ∷ ds) → (done : e.queue.duties ≡ ds)
    → (is : e ≡ record b { queue = e.queue; holding = e.holding; counts = e.counts }) → e.counts ≡ b.counts → (shares : SharesIn p b key)
    → ((slots : ℕ) (h : Holder) (fills : List Fill) (q : ℕ) → IsHoldingOf slots b.holding h fills → region_of_key b.holding key ≡ Some (Numbered q)
    → IsHoldingOf slots e.holding (changes.sharing_stake h q) fills)
    → BodyShows T p e (shared_record c)
shared_shows T p b e g c name ds key here s queue done is counts shares holds =
    let n : NameIsBound T c name = attended T p b c (Share name) ds s queue g here in
    let h : Holder = record c.frame.holder { duties = ds ++ later p.code b } in
    let x = shares.shares T g c here s in
    let first_is = first T p b c (Share name) ds s queue in
    let took = took_in h n.region shares.slot x.0
    (sym (ap (by_first stake_shared c.frame.holder) first_is ∙ ap (option_and_then (shared_in h)) (top_bound T c name n)) ∙ x.1) in
    subst (BodyShows T p e) (sym (ap (λ o. option_map_or (λ (t : ℕ × Holder). with_holder c t.1) o c) x.1))
    (done_shows T p b c (Share name) ds s queue e done is x.0 (accessed c.clock) c.memory refl
    (ap (λ (y : Holder). y.duties) took.after) (ap (λ (y : Holder). y.offer) took.after)
    (subst (λ (y : Holder). IsHoldingOf T.sizes.regions e.holding y c.memory.fills) (sym took.after)
    (holds T.sizes.regions c.frame.holder c.memory.fills shares.slot s.holds shares.region))
    s.calm (s.share ∙ sym counts) refl refl)

-- a name that is protected has a key
pub protected_key : (p : CompactProgram) (b : Body) (name : ℕ) (ds : List Duty) → BodyIsPossible p b → b.queue.duties ≡ Protect name ∷ ds
    → IsKeyOf b.holding None name → ⊥
protected_key p b name ds y queue key =
    let n : NameIsBound y.T y.c name = attended y.T p b y.c (Protect name) ds y.shows queue y.goroutine y.here in
    no_key b.holding (bound (top_names y.c.frame.holder.environments) name) n.region
    (key y.T.sizes.regions y.c.frame.holder y.c.memory.fills y.shows.holds) (top_bound y.T y.c name n)
