-- What duties leave, as local steps or by accesses to counts. The longest part is the end of a last stake: the pages go before the slot,
-- and between the two the record says that it returns a chain.
use Rattle.std.proofs.Common.{◌≡◌, ◌≢◌, ◌+◌, ◌<◌, ◌≤◌, ◌++◌, inl, inr, ℕ, zero, suc, false, List, [], ◌∷◌, Option, Some, None, refl, sym, ap, ◌∙◌, subst, if◌then◌else◌, length, option_and_then, slice_index, arith}
use Rattle.std.proofs.lemmas.Bool.Decides.{nat_tests}
use Rattle.std.proofs.lemmas.List.{append-nil}
use Rattle.std.specs.Option.{option_map_or}
use Rattle.rgo_core.specs.moves.Chains.{remembers}
use Rattle.rgo_core.specs.Core.{Situation, Setup, layout}
use Rattle.rgo_core.specs.ties.Links.{left_to_free}
use Rattle.rgo_core.specs.runs.Opening.{first_of}
use Rattle.rgo_core.specs.Records.{Record, accesses, steps_of}
use Rattle.rgo_core.specs.moves.Regions.{creates, left_stake, leaves_last, with_holder}
use Rattle.rgo_core.specs.Channels.Records.{at_rest}
use Rattle.rgo_core_facts.specs.ControlDuties.{NameIsBound, IsOfBase, IsUnprotected}
use Rattle.rgo_core_facts.specs.ControlSteps.{unbased, unnamed}
use Rattle.rgo_core_facts.proofs.OwnPages.{free_of_slots}
use Rattle.rgo_core_facts.specs.ControlRegions.{IsStaked}
use Rattle.rgo_core.specs.Frames.regions.Stakes.{ended, shared_in, stake_ended, stake_shared}
use Rattle.rgo_core.specs.Memory.Owed.{claimed_for}
use Rattle.rgo_core.specs.Memory.Parts.{pages_at}
use Rattle.rgo_core.specs.Memory.Records.{Calm, Owes, with_give}
use Rattle.rgo_core.specs.Memory.Words.{count_at, state_at}
use Rattle.rgo_core.specs.Memory.declared.layout.TableSizes.{TableSizes}
use Rattle.rgo_core.specs.Rule.Views.{Me, number_of}
use Rattle.rgo_core.specs.Rule.declared.accesses.Access.{Access}
use Rattle.rgo_core.specs.Rule.declared.accesses.Kind.TheVariants.{CreateRegion, FreeSlot, LeaveRegion, ShareRegion}
use Rattle.rgo_core_steps.proofs.accesses.Growing.{grew_then, told_accesses, told_grew, told_record}
use Rattle.rgo_core_steps.specs.Counts.{IsLeaving, Leaving, by_first, created_in_slot, created_with, ending, shared_record, sharing, tried_slot}
use Rattle.rgo_core_steps.specs.Grown.{SeatGrew}
use Rattle.rgo_core_steps.specs.Searches.{Miss, missing}
use Rattle.rgo_core_steps.specs.Seats.{HasPossible, HasAccessed, mine}
use Rattle.rgo_counts.proofs.Vain.{full_law}
use Rattle.rgo_counts.specs.Creation.{AllSlotsTried, SlotTaken}
use Rattle.rgo_body.specs.Pages.Releasing.{ChainGivenBack, gave_back}
use Rattle.rgo_sound.specs.RegionMachine.Counts.{Counts}
use Rattle.rgo_sound.specs.RegionMachine.States.{Create, Duty, EndBase, Holder, Protect, Remove, Share, Unprotect}
use Rattle.rgo_sound.specs.RegionMachine.declared.regions.Region.TheVariants.{Numbered}
use Rattle.rgo_body.proofs.Attending.{attended, first, later, top_bound}
use Rattle.rgo_sound.specs.Stakes.{is_in}
use Rattle.rgo_body.proofs.Sharing.{took_in}
use Rattle.rgo_body.proofs.Removing.{ended_is, staked_slot}
use Rattle.rgo_body.proofs.Showing.{like_shown}
use Rattle.rgo_holding.specs.Holds.{region_of_key}
use Rattle.rgo_holding.specs.declared.keys.Key.{Key}
use Rattle.rgo_body.specs.Bodies.{owed_by_body}
use Rattle.rgo_body.specs.Duties.{DoesLocal, HasDoneDuty, StakeHasEnded, LeavesIn, SharesIn, without_region}
use Rattle.rgo_body.specs.Programs.{CompactProgram}
use Rattle.rgo_body.specs.Shows.{LooksLike, BodyShows, SideShows}
use Rattle.rgo_body.specs.Steps.{Becomes, StillShows}
use Rattle.rgo_body.specs.declared.bodies.Body.{Body}
use Rattle.rgo_body.specs.declared.bodies.Side.{Side}
use Rattle.rgo_acts.specs.Actors.{IsActorOf, Went, distance, now}
use Rattle.rgo_acts.specs.Attending.{HasAttended, HasWaited, IsAtDuty, IsShort}
use Rattle.rgo_acts.specs.Runs.{Run}
use Rattle.rgo_acts.specs.Shortages.{AllInUse}
use Rattle.rgo_acts.specs.declared.actors.Actor.{Actor}
use Rattle.rgo_acts.proofs.Standing.{Continues, Follows, acted_by, acted_local, acted_none, acted_one, now_accesses, now_at_once, unmoved_at}

-- ---- before a duty

module _ (r : Run) (a : Actor) (d : Duty) (before : IsAtDuty r a d) where
  pub rests_at : (now r.setup a).side ≡ at_rest
  rests_at = (subst (λ (s : Side). SideShows s (now r.setup a).side (now r.setup a).frame.holder.offer) before.rests before.stands.shows.side).0

  pub owes_first : (now r.setup a).frame.holder.duties ≡ d ∷ (before.others ++ later r.program.code a.body)
  owes_first = first r.setup r.program a.body (now r.setup a) d before.others before.stands.shows before.owes

-- its next instruction is nearer, since a duty that is done leaves no new one
pub nearer : (p : CompactProgram) (b e : Body) → HasDoneDuty b e → distance p e < distance p b
nearer p b e done =
    let l : length (owed_by_body p.code e) ≡ length (e.queue.duties ++ later p.code b) =
    ap (λ (x : Body). length (e.queue.duties ++ later p.code x)) done.rest in
    let m : length (owed_by_body p.code b) ≡ suc (length (e.queue.duties ++ later p.code b)) = ap (λ q. length (q ++ later p.code b)) done.queue in
    let k : ◌≡◌ {A = ℕ} (if e.is_expanded then 0 else 1) (if b.is_expanded then 0 else 1) =
    ap {B = ℕ} (λ (x : Body). if x.is_expanded then 0 else 1) done.rest in
    omega (arith, l, m, k)

-- ---- without an access

pub local_done : (r : Run) (a b : Actor) → IsActorOf r a → b.seat ≡ a.seat → b.behind ≡ a.behind + 1 → DoesLocal r.program a.body b.body
    → HasAttended r a b
local_done r a b s seat behind does = record {
  acted = acted_local r a b 1 0 s seat behind does.0 (let e = ap (λ n. n.steps) does.2 in omega (arith, e));
  done = does.1;
  nearer = nearer r.program a.body b.body does.1;
}

pub has_waited : (r : Run) (a b : Actor) → IsActorOf r a → b.seat ≡ a.seat → b.behind ≡ a.behind → StillShows r.program a.body b.body
    → b.body ≡ record a.body { holding = b.body.holding } → HasWaited r a b
has_waited r a b s seat behind stays is = record {
  acted = acted_none r a b s seat behind (stays r.setup (now r.setup a) s.shows);
  rest = is;
}

-- a table without slots
pub no_slots : (r : Run) (a b : Actor) (name : ℕ) (before : IsAtDuty r a (Create name)) → b.seat ≡ a.seat → b.behind ≡ a.behind
    → StillShows r.program a.body b.body → b.body ≡ record a.body { holding = b.body.holding } → r.sizes ≡ layout r.setup → r.sizes.slots ≡ 0
    → IsShort r a b
no_slots r a b name before seat behind stays is sizes none = record {
  waited = has_waited r a b before.stands seat behind stays is;
  unmoved = unmoved_at r a b (has_waited r a b before.stands seat behind stays is).acted seat behind;
  lacks =
      let few : r.setup.sizes.regions ≡ 0 = sym (ap (λ (z : TableSizes). z.slots) sizes) ∙ none in
      let owes = first r.setup r.program b.body (now r.setup b) (Create name) before.others
      (acted_none r a b before.stands seat behind (stays r.setup (now r.setup a) before.stands.shows)).stands.shows
      (ap (λ (x : Body). x.queue.duties) is ∙ before.owes) in
      record {
        creates = (name, (before.others ++ later r.program.code b.body), owes);
        in_use = λ k low. absurd (omega (arith, few, low));
      };
}

-- ---- a region is created

like_tries : (ts : List Miss) (c : Record) → LooksLike c (missing tried_slot c ts)
like_tries [] c = record {
  frame = refl;
  side = refl;
  fills = refl;
  reserved = refl;
  make = refl;
  claim = refl;
  give = refl;
  share = refl;
  owed = refl;
  prints = refl;
  refused = refl;
}
like_tries (t ∷ ts) c = let l = like_tries ts (tried_slot c t.place) in record {
  frame = l.frame;
  side = l.side;
  fills = l.fills;
  reserved = l.reserved;
  make = l.make;
  claim = l.claim;
  give = l.give;
  share = l.share;
  owed = l.owed;
  prints = l.prints;
  refused = l.refused;
}

-- the clock stays as it was, but for accesses
record IsOld (c d : Record) : Type 0 where
  steps : steps_of d ≡ steps_of c
  prints : d.clock.prints ≡ c.clock.prints
  children : d.clock.children ≡ c.clock.children
  first : d.clock.first ≡ c.clock.first

old_tries : (ts : List Miss) (c : Record) → IsOld c (missing tried_slot c ts)
old_tries [] c = record { steps = refl; prints = refl; children = refl; first = refl }
old_tries (t ∷ ts) c =
    let l = old_tries ts (tried_slot c t.place) in record { steps = l.steps; prints = l.prints; children = l.children; first = l.first }

old_continues : (c d : Record) → IsOld c d → Continues c d 0 [] []
old_continues c d l = record {
  steps = let e = l.steps in omega (arith, e);
  prints = l.prints ∙ sym (append-nil c.clock.prints);
  children = l.children;
  first = l.first;
}

created_is : (c : Record) (name slot : ℕ) (ds : List Duty) → c.frame.holder.duties ≡ Create name ∷ ds → created_in_slot c slot ≡ creates c name ds slot
created_is c name slot ds owes = ap (created_with c slot) owes

like_creates : (c d : Record) (name slot : ℕ) (ds : List Duty) → LooksLike c d → LooksLike (creates c name ds slot) (creates d name ds slot)
like_creates c d name slot ds l = record {
  frame = ap (λ f. (creates (record c { frame = f }) name ds slot).frame) l.frame;
  side = l.side;
  fills = l.fills;
  reserved = l.reserved;
  make = l.make;
  claim = l.claim;
  give = l.give;
  share = ap (λ n. (creates (record c { clock = record c.clock { share = n } }) name ds slot).clock.share) l.share;
  owed = l.owed;
  prints = l.prints;
  refused = l.refused;
}

went_by : (r : Run) (a b : Actor) (es : List Access) → b.behind ≡ 0 → SeatGrew accesses (first_of r.setup.code) a.seat.me es b.seat.me
    → Continues (now r.setup a) (mine r.setup b.seat.me) 0 [] [] → Went r.setup a b 0 [] [] es
went_by r a b es none grew follows =
    let e = now_at_once r.setup b none in record {
      grew = grew;
      steps = ap steps_of e ∙ follows.steps;
      prints = ap (λ (c : Record). c.clock.prints) e ∙ follows.prints;
      children = ap (λ (c : Record). c.clock.children) e ∙ follows.children;
      first = ap (λ (c : Record). c.clock.first) e ∙ follows.first;
    }

module _ (r : Run) (a b : Actor) (name : ℕ) (before : IsAtDuty r a (Create name)) (own : b.seat.table_id ≡ a.seat.table_id)
    (behind : b.behind ≡ 0) (possible : HasPossible r.setup b.seat.me) where
  abbrev others : List Duty
  others = before.others ++ later r.program.code a.body

  pub created_done : (slot : ℕ) → SlotTaken r.setup r.sizes (now r.setup a) slot a.seat.me b.seat.me
      → BodyShows r.setup r.program b.body (created_in_slot (now r.setup a) slot) → HasDoneDuty a.body b.body → HasAttended r a b
  created_done slot taken shows done =
      let c = now r.setup a in
      let t = taken.1.took in
      let d = missing tried_slot c t.tries in
      let like = like_tries t.tries c in
      let owes = owes_first r a (Create name) before in
      let after : mine r.setup b.seat.me ≡ creates d name others slot =
      t.made.after ∙ created_is d name slot others (ap (λ f. f.holder.duties) like.frame ∙ owes) in
      record {
        acted = acted_by r a b before.stands 0 [] [] t.made.es own behind t.made.grew possible
            (subst (λ (e : Record). Continues c e 0 [] []) (sym after)
            (old_continues c (creates d name others slot) (let l = old_tries t.tries c in
            record { steps = l.steps; prints = l.prints; children = l.children; first = l.first })))
            (subst (BodyShows r.setup r.program b.body) (sym after)
            (like_shown r.setup r.program b.body (creates c name others slot) (creates d name others slot)
            (subst (BodyShows r.setup r.program b.body) (created_is c name slot others owes) shows)
            (like_creates c d name slot others like)));
        done = done;
        nearer = nearer r.program a.body b.body done;
      }

  pub created_short : AllSlotsTried r.setup r.sizes (now r.setup a) a.seat.me b.seat.me → r.sizes ≡ layout r.setup
      → StillShows r.program a.body b.body → b.body ≡ record a.body { holding = b.body.holding } → IsShort r a b
  created_short tried sizes stays is =
      let c = now r.setup a in
      let t = tried.tried in
      let full = full_law r.setup r.sizes c a.seat.me b.seat.me tried in
      let d = missing tried_slot c t.tries in
      let after : mine r.setup b.seat.me ≡ d = t.made.after in
      let like = like_tries t.tries c in
      let here : now r.setup b ≡ d = now_at_once r.setup b behind ∙ after in
      let goes : Continues c (mine r.setup b.seat.me) 0 [] [] =
      subst (λ (e : Record). Continues c e 0 [] []) (sym after) (old_continues c d (old_tries t.tries c)) in
      record {
        waited = record {
          acted = record {
            es = full.es;
            went = went_by r a b full.es behind full.grew goes;
            stands = (acted_by r a b before.stands 0 [] [] full.es own behind full.grew possible goes
                (subst (BodyShows r.setup r.program b.body) (sym after)
                (like_shown r.setup r.program b.body c d (stays r.setup c before.stands.shows) like))).stands;
          };
          rest = is;
        };
        unmoved = record { words = full.still; frame = ap (λ (x : Record). x.frame) here ∙ like.frame };
        lacks = record {
          creates = (
            name,
            others,
            ap (λ (x : Record). x.frame.holder.duties) here ∙ (ap (λ f. f.holder.duties) like.frame
                ∙ owes_first r a (Create name) before),
          );
          in_use = subst (λ (z : TableSizes). AllInUse (number_of a.seat.me) full.es CreateRegion (count_at z) z.slots) sizes
              (λ k low. full.found k low);
        };
      }

-- ---- a stake for a child

module _ (r : Run) (a : Actor) (name : ℕ) (before : IsAtDuty r a (Share name)) where
  pub shares_low : (slot : ℕ) (k : Holder) → sharing (now r.setup a) ≡ Some (slot, k) → slot < r.setup.sizes.regions
  shares_low slot k is =
      let T = r.setup in
      let c = now r.setup a in
      let ds = before.others in
      let n : NameIsBound T c name =
      attended T r.program a.body c (Share name) ds before.stands.shows before.owes (number_of a.seat.me) before.stands.possible in
      let h : Holder = record c.frame.holder { duties = ds ++ later r.program.code a.body } in
      let took = took_in h n.region slot k
      (sym (ap (by_first stake_shared c.frame.holder) (owes_first r a (Share name) before)
      ∙ ap (option_and_then (shared_in h)) (top_bound T c name n)) ∙ is) in
      (subst (IsStaked T c) took.region n.staked).1

  pub shared_done : (b : Actor) → b.seat.table_id ≡ a.seat.table_id → b.behind ≡ 0 → HasPossible r.setup b.seat.me → (slot : ℕ) (k : Holder)
      → sharing (now r.setup a) ≡ Some (slot, k) → (i : ℕ) (f : ℕ → ℕ)
      → (n : ℕ) × HasAccessed r.setup ShareRegion i f (λ n d. d ≡ shared_record (now r.setup a)) a.seat.me n b.seat.me
      → BodyShows r.setup r.program b.body (shared_record (now r.setup a)) → HasDoneDuty a.body b.body → HasAttended r a b
  shared_done b own behind possible slot k is i f left shows done =
      let c = now r.setup a in
      let same : shared_record c ≡ with_holder c k = ap (λ o. option_map_or (λ (t : ℕ × Holder). with_holder c t.1) o c) is in
      record {
        acted = acted_one r a b before.stands 0 [] [] ShareRegion i left.0 f (λ n d. d ≡ shared_record c) (shared_record c) own behind left.1 possible
            (λ t. t)
            (subst (λ (d : Record). Follows c d 0 [] []) (sym same) (record {
              accesses = refl;
              steps = omega arith;
              prints = sym (append-nil c.clock.prints);
              children = refl;
              first = refl;
            }))
            shows;
        done = done;
        nearer = nearer r.program a.body b.body done;
      }

-- ---- a stake ends

claims_few : (states : ℕ → ℕ) (n r : ℕ) → pages_at states n r ≤ n
claims_few states zero r = omega arith
claims_few states (suc n) r = let a = claims_few states n r in grind (arith, nat_tests, a)

-- no more pages are owed than there are, so what it counts of them cannot overflow
pub few_owed : (T : Setup) (g : ℕ) (c : Record) (slot : ℕ) → Situation T g c → c.memory.give ≡ Owes slot → c.clock.owed ≤ T.sizes.pages
few_owed T g c slot x owes =
    let a : c.clock.owed ≡ claimed_for (layout T) x.words slot =
    (x.core.links g c x.is_c).owed ∙ ap (left_to_free (layout T) x.words) owes in
    let b = claims_few (λ p. slice_index x.words (state_at (layout T) p)) (layout T).pages slot in
    omega (arith, a, b)

module _ (r : Run) (a b : Actor) (before : IsActorOf r a) (own : b.seat.table_id ≡ a.seat.table_id) (behind : b.behind ≡ 0)
    (possible : HasPossible r.setup b.seat.me) (done : HasDoneDuty a.body b.body) (slot : ℕ) (k : Holder) where
  -- it was not the last one
  pub left_done : (i found : ℕ) (f : ℕ → ℕ) (tells : ℕ → Record → Type 0)
      → HasAccessed r.setup LeaveRegion i f tells a.seat.me found b.seat.me
      → (tells found (mine r.setup b.seat.me) → mine r.setup b.seat.me ≡ left_stake (now r.setup a) k slot)
      → BodyShows r.setup r.program b.body (left_stake (now r.setup a) k slot) → HasAttended r a b
  left_done i found f tells left is shows = record {
    acted = acted_one r a b before 0 [] [] LeaveRegion i found f tells (left_stake (now r.setup a) k slot) own behind left possible is (record {
      accesses = refl;
      steps = omega arith;
      prints = sym (append-nil (now r.setup a).clock.prints);
      children = refl;
      first = refl;
    }) shows;
    done = done;
    nearer = nearer r.program a.body b.body done;
  }

  -- it was the last one: the pages were given back, and the slot is free
  pub last_done : (i found : ℕ) (f : ℕ → ℕ) (tells : ℕ → Record → Type 0) (m n : Me Record)
      → HasAccessed r.setup LeaveRegion i f tells a.seat.me found m → (pages : ℕ)
      → mine r.setup m ≡ leaves_last (now r.setup a) k slot pages → (z : TableSizes) (freed : ℕ)
      → ChainGivenBack r.setup z slot (mine r.setup m) freed m n → freed ≡ (mine r.setup m).clock.owed → (j : ℕ)
      → (old : ℕ) × HasAccessed r.setup FreeSlot j (λ n. 0)
      (λ found d. d ≡ remembers (mine r.setup n) (with_give (mine r.setup n).memory Calm)) n old b.seat.me
      → BodyShows r.setup r.program b.body (without_region (left_stake (now r.setup a) k slot) freed) → HasAttended r a b
  last_done i found f tells m n left pages is z freed given count j stored shows =
      let T = r.setup in
      let c = now r.setup a in
      let e = leaves_last c k slot pages in
      let d = remembers (gave_back e slot) (with_give (gave_back e slot).memory Calm) in
      let blank = first_of T.code in
      let grew_one = told_grew accesses blank a.seat.me m LeaveRegion i found f tells left
      (ap accesses is ∙ ap suc (now_accesses T a)) in
      let ys = told_accesses accesses blank n b.seat.me FreeSlot j stored.0 (λ n. 0)
      (λ found d. d ≡ remembers (mine T n) (with_give (mine T n).memory Calm)) stored.1 in
      let told = told_record accesses blank n b.seat.me FreeSlot j stored.0 (λ n. 0)
      (λ found d. d ≡ remembers (mine T n) (with_give (mine T n).memory Calm)) stored.1 in
      let grew_last = told_grew accesses blank n b.seat.me FreeSlot j stored.0 (λ n. 0)
      (λ found d. d ≡ remembers (mine T n) (with_give (mine T n).memory Calm)) stored.1 (ap accesses told) in
      let xs = told_accesses accesses blank a.seat.me m LeaveRegion i found f tells left in
      let whole = grew_then accesses blank a.seat.me m b.seat.me xs (given.made.es ++ ys) grew_one
      (grew_then accesses blank m n b.seat.me given.made.es ys given.made.grew grew_last) in
      let back : mine T n ≡ gave_back e slot = given.made.after ∙ ap (λ (x : Record). gave_back x slot) is in
      let after : mine T b.seat.me ≡ d = told ∙ ap (λ (x : Record). remembers x (with_give x.memory Calm)) back in
      let so : freed ≡ pages = count ∙ ap (λ (x : Record). x.clock.owed) is in
      record {
        acted = acted_by r a b before 0 [] [] (xs ++ (given.made.es ++ ys)) own behind whole possible
            (subst (λ (x : Record). Continues c x 0 [] []) (sym after)
            (old_continues c d (record { steps = refl; prints = refl; children = refl; first = refl })))
            (subst (BodyShows T r.program b.body) (sym after)
            (like_shown T r.program b.body (without_region (left_stake c k slot) freed) d shows (record {
              frame = refl;
              side = refl;
              fills = refl;
              reserved = refl;
              make = refl;
              claim = refl;
              give = sym before.shows.calm.give;
              share = ap (λ q. (without_region (left_stake c k slot) q).clock.share) (sym so);
              owed = sym before.shows.calm.none;
              prints = refl;
              refused = refl;
            })));
        done = done;
        nearer = nearer r.program a.body b.body done;
      }

-- ---- which slots

pub share_slot : (r : Run) (a : Actor) (name : ℕ) → IsAtDuty r a (Share name) → r.sizes ≡ layout r.setup → (key : Key)
    (sh : SharesIn r.program a.body key) (e : Body) → e ≡ a.body → (result : ℕ)
    → ((slot : ℕ) → region_of_key e.holding key ≡ Some (Numbered slot) → result ≡ slot)
    → (result < r.sizes.slots) × ((k : Holder) × (sharing (now r.setup a) ≡ Some (result, k)))
share_slot r a name before sizes key sh e same result is =
    let so : result ≡ sh.slot = is sh.slot (ap (λ (x : Body). region_of_key x.holding key) same ∙ sh.region) in
    let x = sh.shares r.setup (number_of a.seat.me) (now r.setup a) before.stands.possible before.stands.shows in
    let low = shares_low r a name before sh.slot x.0 x.1 in
    let many : r.sizes.slots ≡ r.setup.sizes.regions = ap (λ (z : TableSizes). z.slots) sizes in
    (omega (arith, so, low, many), (x.0, x.1 ∙ ap (λ n. Some (n, x.0)) (sym so)))

no_pair : (y : ℕ × Holder) → ◌≡◌ {A = Option (ℕ × Holder)} None (Some y) → ⊥
no_pair y e = cc

leaves_low : (r : Run) (a : Actor) (d : Duty) → IsAtDuty r a d → (slot : ℕ) (k : Holder) → ending (now r.setup a) ≡ Some (slot, k)
    → slot < r.setup.sizes.regions
leaves_low r a d before slot k is = by d before (sym (ap (by_first stake_ended (now r.setup a).frame.holder) (owes_first r a d before)) ∙ is)
  where
    by : (d : Duty) (before : IsAtDuty r a d)
        → stake_ended (record (now r.setup a).frame.holder { duties = before.others ++ later r.program.code a.body }) d ≡ Some (slot, k)
        → slot < r.setup.sizes.regions
    by (Remove name) before e =
        let n : IsUnprotected r.setup (now r.setup a) name =
        attended r.setup r.program a.body (now r.setup a) (Remove name) before.others before.stands.shows before.owes (number_of a.seat.me)
        before.stands.possible in
        let h : Holder =
        unnamed (record (now r.setup a).frame.holder { duties = before.others ++ later r.program.code a.body }) name in
        let z = ended_is h n.named.region slot k
        (sym (ap (option_and_then (ended h)) (top_bound r.setup (now r.setup a) name n.named)) ∙ e) in
        staked_slot r.setup (now r.setup a) n.named.region slot n.named.staked z.region
    by (EndBase q) before e =
        let b : IsOfBase r.setup (now r.setup a) q =
        attended r.setup r.program a.body (now r.setup a) (EndBase q) before.others before.stands.shows before.owes (number_of a.seat.me)
        before.stands.possible in
        let h : Holder = unbased (record (now r.setup a).frame.holder { duties = before.others ++ later r.program.code a.body }) q in
        staked_slot r.setup (now r.setup a) q slot b.staked (ended_is h q slot k e).region
    by (Create name) before e = absurd (no_pair (slot, k) e)
    by (Share name) before e = absurd (no_pair (slot, k) e)
    by (Protect name) before e = absurd (no_pair (slot, k) e)
    by (Unprotect name) before e = absurd (no_pair (slot, k) e)

pub leave_slot : (r : Run) (a : Actor) (d : Duty) → IsAtDuty r a d → r.sizes ≡ layout r.setup → (key : Key) (l : LeavesIn r.program a.body key)
    → (result : ℕ) → ((slot : ℕ) → region_of_key a.body.holding key ≡ Some (Numbered slot) → result ≡ slot)
    → (result < r.sizes.slots) × IsLeaving (now r.setup a) result
leave_slot r a d before sizes key l result is =
    let so : result ≡ l.slot = is l.slot l.region in
    let x = l.ends r.setup (number_of a.seat.me) (now r.setup a) before.stands.possible before.stands.shows in
    let low = leaves_low r a d before l.slot x.0 x.1 in
    let many : r.sizes.slots ≡ r.setup.sizes.regions = ap (λ (z : TableSizes). z.slots) sizes in
    let calm = before.stands.shows.calm in (
      omega (arith, so, low, many),
      record {
        holder = x.0;
        is = x.1 ∙ ap (λ n. Some (n, x.0)) (sym so);
        free = free_of_slots (now r.setup a).memory result calm.make calm.claim;
        calm = calm.give;
      },
    )

-- ---- what follows from the end of a stake

record ToldOthers (c : Record) (slot : ℕ) (e : Record) : Type 0 where
  k : Holder
  ends : ending c ≡ Some (slot, k)
  is : e ≡ left_stake c k slot

told_others : (c : Record) (slot n : ℕ) (e : Record) → Leaving c slot n e → n ≢ 2 → ToldOthers c slot e
told_others c slot n e (k, ends, inl t) some = record { k = k; ends = ends; is = t.1 }
told_others c slot n e (k, ends, inr t) some = absurd (some t.0)

record ToldLast (c : Record) (slot : ℕ) (e : Record) : Type 0 where
  k : Holder
  ends : ending c ≡ Some (slot, k)
  pages : ℕ
  is : e ≡ leaves_last c k slot pages

told_last : (c : Record) (slot n : ℕ) (e : Record) → Leaving c slot n e → n ≡ 2 → ToldLast c slot e
told_last c slot n e (k, ends, inl t) two = absurd (t.0 two)
told_last c slot n e (k, ends, inr t) two = record { k = k; ends = ends; pages = t.2; is = t.3 }

module _ (r : Run) (a : Actor) (d : Duty) (before : IsAtDuty r a d) (slot i found : ℕ) (f : ℕ → ℕ) (m : Me Record)
    (left : HasAccessed r.setup LeaveRegion i f (Leaving (now r.setup a) slot) a.seat.me found m) where
  told : Leaving (now r.setup a) slot found (mine r.setup m)
  told = told_record accesses (first_of r.setup.code) a.seat.me m LeaveRegion i found f (Leaving (now r.setup a) slot) left

  same_goroutine : accesses (mine r.setup m) ≡ suc (accesses (now r.setup a)) → HasPossible r.setup m
      → Situation r.setup (number_of a.seat.me) (mine r.setup m)
  same_goroutine count possible = subst (λ g. Situation r.setup g (mine r.setup m))
      (told_grew accesses (first_of r.setup.code) a.seat.me m LeaveRegion i found f (Leaving (now r.setup a) slot) left
      (count ∙ ap suc (now_accesses r.setup a))).same possible

  pub owes_told : found ≡ 2 → (mine r.setup m).memory.give ≡ Owes slot
  owes_told two = ap (λ (x : Record). x.memory.give) (told_last (now r.setup a) slot found (mine r.setup m) told two).is

  last_shows : (b : Body) → StakeHasEnded r.program a.body b → HasPossible r.setup m → (two : found ≡ 2)
      → BodyShows r.setup r.program b (left_stake (now r.setup a) (told_last (now r.setup a) slot found (mine r.setup m) told two).k slot)
  last_shows b shows possible two =
      let t = told_last (now r.setup a) slot found (mine r.setup m) told two in
      shows r.setup (number_of a.seat.me) (now r.setup a) (mine r.setup m) slot t.k before.stands.possible before.stands.shows t.ends
      (same_goroutine (ap accesses t.is) possible) (ap (λ (x : Record). x.frame) t.is)

  pub all_gone : (b : Actor) (mid : Body) → b.seat.table_id ≡ a.seat.table_id → b.behind ≡ 0 → HasPossible r.setup b.seat.me
      → (n : Me Record) → HasPossible r.setup m → HasDoneDuty a.body b.body → StakeHasEnded r.program a.body mid → (freed : ℕ)
      → Becomes r.program mid b.body (λ T c. without_region c freed) → found ≡ 2 → (z : TableSizes)
      → ChainGivenBack r.setup z slot (mine r.setup m) freed m n → freed ≡ (mine r.setup m).clock.owed → (j : ℕ)
      → (old : ℕ) × HasAccessed r.setup FreeSlot j (λ n. 0)
      (λ found d. d ≡ remembers (mine r.setup n) (with_give (mine r.setup n).memory Calm)) n old b.seat.me
      → HasAttended r a b
  all_gone b mid own behind possible n possible_m done shows freed becomes two z given count j stored =
      let t = told_last (now r.setup a) slot found (mine r.setup m) told two in
      last_done r a b before.stands own behind possible done slot t.k i found f (Leaving (now r.setup a) slot) m n left t.pages t.is z freed
      given count j stored
      (becomes r.setup (left_stake (now r.setup a) t.k slot) (last_shows mid shows possible_m two))

pub others_stay : (r : Run) (a : Actor) (d : Duty) (before : IsAtDuty r a d) (b : Actor) → b.seat.table_id ≡ a.seat.table_id → b.behind ≡ 0
    → HasPossible r.setup b.seat.me → HasDoneDuty a.body b.body → StakeHasEnded r.program a.body b.body → (slot i found : ℕ) (f : ℕ → ℕ)
    → HasAccessed r.setup LeaveRegion i f (Leaving (now r.setup a) slot) a.seat.me found b.seat.me → found ≢ 2 → HasAttended r a b
others_stay r a d before b own behind possible done shows slot i found f left some =
    let t = told_others (now r.setup a) slot found (mine r.setup b.seat.me) (told r a d before slot i found f b.seat.me left) some in
    left_done r a b before.stands own behind possible done slot t.k i found f (Leaving (now r.setup a) slot) left (λ x. t.is)
    (shows r.setup (number_of a.seat.me) (now r.setup a) (mine r.setup b.seat.me) slot t.k before.stands.possible before.stands.shows t.ends
    (same_goroutine r a d before slot i found f b.seat.me left (ap accesses t.is) possible) (ap (λ (x : Record). x.frame) t.is))

-- ---- as the contracts state it

pub shared_by : (r : Run) (a : Actor) (name : ℕ) (before : IsAtDuty r a (Share name)) (b : Actor) → b.seat.table_id ≡ a.seat.table_id
    → b.behind ≡ 0 → HasPossible r.setup b.seat.me → (slot : ℕ) (k : Holder) → sharing (now r.setup a) ≡ Some (slot, k)
    → (i : ℕ) (f : ℕ → ℕ) → (n : ℕ) × HasAccessed r.setup ShareRegion i f (λ n d. d ≡ shared_record (now r.setup a)) a.seat.me n b.seat.me
    → (e : Body) → e ≡ a.body
    → ((T : Setup) (g : ℕ) (c : Record) → Situation T g c → BodyShows T r.program e c → BodyShows T r.program b.body (shared_record c)) → HasDoneDuty e b.body
    → HasAttended r a b
shared_by r a name before b own behind possible slot k is i f left e same shows done =
    shared_done r a name before b own behind possible slot k is i f left
    (shows r.setup (number_of a.seat.me) (now r.setup a) before.stands.possible
    (subst (λ (x : Body). BodyShows r.setup r.program x (now r.setup a)) (sym same) before.stands.shows))
    (subst (λ (x : Body). HasDoneDuty x b.body) same done)

-- the pages of a region that is gone can be counted
pub returned_fits : (r : Run) (a : Actor) (d : Duty) (before : IsAtDuty r a d) → r.sizes ≡ layout r.setup → (slot i found : ℕ) (f : ℕ → ℕ)
    (m : Me Record) → HasAccessed r.setup LeaveRegion i f (Leaving (now r.setup a) slot) a.seat.me found m → HasPossible r.setup m → found ≡ 2
    → (freed : ℕ) → freed ≡ (mine r.setup m).clock.owed → (counts : Counts) → counts ≡ a.body.counts
    → counts.returned + freed < 18446744073709551616
returned_fits r a d before sizes slot i found f m left possible two freed count counts same =
    let few = few_owed r.setup (number_of m) (mine r.setup m) slot possible (owes_told r a d before slot i found f m left two) in
    let pages : r.sizes.pages ≡ r.setup.sizes.pages = ap (λ (z : TableSizes). z.pages) sizes in
    let most = before.returned in
    let now_returned : counts.returned ≡ a.body.counts.returned = ap (λ (n : Counts). n.returned) same in
    omega arith

pub done_more : (b mid e : Body) → HasDoneDuty b mid → e ≡ record mid { counts = e.counts } → HasDoneDuty b e
done_more b mid e done same = record {
  first = done.first;
  queue = done.queue ∙ ap (λ (x : Body). done.first ∷ x.queue.duties) (sym same);
  rest = same ∙ ap (λ (x : Body). record x { counts = e.counts }) done.rest
      ∙ ap (λ (x : Body). record b { holding = x.holding; queue = x.queue; counts = e.counts }) (sym same);
}

pub done_first : (b mid e : Body) → HasDoneDuty mid e → mid ≡ record b { holding = mid.holding } → HasDoneDuty b e
done_first b mid e done same = record {
  first = done.first;
  queue = ap (λ (x : Body). x.queue.duties) (sym same) ∙ done.queue;
  rest = done.rest ∙ ap (λ (x : Body). record x { holding = e.holding; queue = e.queue; counts = e.counts }) same;
}

pub created_by_call : (r : Run) (a b : Actor) (name : ℕ) (before : IsAtDuty r a (Create name)) → b.seat.table_id ≡ a.seat.table_id
    → b.behind ≡ 0 → HasPossible r.setup b.seat.me → (slot : ℕ) → SlotTaken r.setup r.sizes (now r.setup a) slot a.seat.me b.seat.me
    → r.sizes ≡ layout r.setup → is_in slot (now r.setup a).frame.holder.stakes ≡ false → (mid : Body) → StillShows r.program a.body mid
    → mid ≡ record a.body { holding = mid.holding }
    → ((T : Setup) (g : ℕ) (c : Record) → Situation T g c → BodyShows T r.program mid c → slot < T.sizes.regions
    → is_in slot c.frame.holder.stakes ≡ false → BodyShows T r.program b.body (created_in_slot c slot)) → HasDoneDuty mid b.body
    → HasAttended r a b
created_by_call r a b name before own behind possible slot taken sizes fresh mid stays same shows done =
    let many : r.sizes.slots ≡ r.setup.sizes.regions = ap (λ (z : TableSizes). z.slots) sizes in
    let low = taken.0 in
    created_done r a b name before own behind possible slot taken
    (shows r.setup (number_of a.seat.me) (now r.setup a) before.stands.possible (stays r.setup (now r.setup a) before.stands.shows)
    (omega (arith, many, low)) fresh)
    (done_first a.body mid b.body done same)
