-- A new object is made: its words were stored, and the instruction is done. The last store does the instruction, so the record after it is
-- that after the step.
use Rattle.std.proofs.Common.{◌≡◌, ◌+◌, ◌*◌, ◌∙◌, ℕ, suc, List, [], Some, ap, sym, subst, refl, arith, slice_index}
use Rattle.std.proofs.lemmas.List.{append-nil}
use Rattle.rgo_core.specs.Rule.declared.accesses.Access.{Access}
use Rattle.rgo_core_facts.specs.MemoryObjects.{with_new_object, with_new_object_apart}
use Rattle.rgo_core.specs.Frames.steps.Actions.{after_action}
use Rattle.rgo_core.specs.Memory.Records.{Fill, with_object_in_page, with_object_apart}
use Rattle.rgo_core.specs.Core.{Setup}
use Rattle.rgo_core.specs.moves.NewObjects.{reserved_address}
use Rattle.rgo_core.specs.runs.Opening.{first_of}
use Rattle.rgo_core.specs.Records.{Record, accesses, steps_of, ticked}
use Rattle.rgo_core_steps.specs.After.{Position, given, making, making_apart}
use Rattle.rgo_core_steps.specs.Grown.{SeatGrew}
use Rattle.rgo_core_steps.specs.Seats.{HasPossible, mine}
use Rattle.rgo_core_steps.proofs.record_steps.After.{at, moving_is}
use Rattle.rgo_sound.specs.Memory.Memory.{Object}
use Rattle.rgo_sound.specs.RegionMachine.Objects.{object_words as words_of}
use Rattle.rgo_sound.specs.RegionMachine.declared.regions.Region.{Region}
use Rattle.rgo_holding.specs.Holds.{region_of_key}
use Rattle.rgo_holding.specs.Known.{own_page, slot_or_global}
use Rattle.rgo_holding.specs.declared.entries.Page.{Page}
use Rattle.rgo_body.specs.Programs.{CompactProgram}
use Rattle.rgo_body.specs.Shows.{BodyShows}
use Rattle.rgo_body.specs.declared.nexts.Next.{Next}
use Rattle.rgo_body.proofs.Showing.{like_shown}
use Rattle.rgo_acts.specs.Actors.{ActorActed, now}
use Rattle.rgo_acts.specs.Objects.{IsPlacedInPage, IsSpreadOverPages}
use Rattle.rgo_acts.specs.Ready.{ActorIsBefore}
use Rattle.rgo_acts.specs.Runs.{Run}
use Rattle.rgo_acts.specs.declared.actors.Actor.{Actor}
use Rattle.rgo_acts.specs.declared.objects.New.{New}
use Rattle.rgo_acts.proofs.before.Instructions.{here}
use Rattle.rgo_acts.proofs.Standing.{Continues, acted_by}

module _ (r : Run) (a : Actor) (next : Next) (before : ActorIsBefore r a next) where
  abbrev c : Record
  c = now r.setup a

  -- the record after the instruction, by its position
  abbrev after_making : Fill → Object → Position → Record
  after_making f object p = record c {
    clock = record (ticked c.clock) {
      share = record c.clock.share { steps = suc c.clock.share.steps; objects = suc c.clock.share.objects };
    };
    frame = after_action r.setup.code c.frame p.w p.ws p.instr (given p.instr.op) (suc (f.page * r.setup.sizes.page_words + f.fill));
    memory = with_object_in_page c.memory f.slot (f.fill + words_of object);
  }

  making_is : (f : Fill) (object : Object) → making r.setup c f object ≡ after_making f object (at (here r a next before))
  making_is f object = moving_is (here r a next before) (after_making f object)

  pub making_continues : (f : Fill) (object : Object) → Continues c (with_new_object r.setup c f object) 1 [] []
  making_continues f object =
      let is = making_is f object in
      record {
        steps = ap steps_of is ∙ omega arith;
        prints = ap (λ (d : Record). d.clock.prints) is ∙ sym (append-nil c.clock.prints);
        children = ap (λ (d : Record). d.clock.children) is;
        first = ap (λ (d : Record). d.clock.first) is;
      }

-- the body shows the record after it
abbrev pub MadeShows : CompactProgram → (before after : Actor) → (new : New) → (end word : ℕ) → Type 0
MadeShows p a b new end word =
    (T : Setup) (c : Record) (f : Fill) (object : Object) (region : Region) → BodyShows T p a.body c
    → region_of_key a.body.holding new.key ≡ Some region → f.slot ≡ slot_or_global T.sizes.regions region
    → f.fill + words_of object ≡ end → suc (f.page * T.sizes.page_words + f.fill) ≡ word
    → BodyShows T p b.body (making T c f object)

module _ (s r : Run) (seen_is : s ≡ r) (a : Actor) (next : Next) (before : ActorIsBefore r a next) (new : New) (page : Page)
    (placed : (region : Region) × (region_of_key a.body.holding new.key ≡ Some region)
    × IsPlacedInPage r.setup (now r.setup a) (slot_or_global r.setup.sizes.regions region) page new) where
  before_it : ActorIsBefore s a next
  before_it = subst (λ (x : Run). ActorIsBefore x a next) (sym seen_is) before

  abbrev pub placed_it : (region : Region) × (region_of_key a.body.holding new.key ≡ Some region)
      × IsPlacedInPage s.setup (now s.setup a) (slot_or_global s.setup.sizes.regions region) page new
  placed_it = subst (λ (x : Run). (region : Region) × (region_of_key a.body.holding new.key ≡ Some region)
      × IsPlacedInPage x.setup (now x.setup a) (slot_or_global x.setup.sizes.regions region) page new) (sym seen_is) placed

  pub made_here : (b : Actor) → b.seat.table_id ≡ a.seat.table_id → b.behind ≡ 0
      → (grew : (es : List Access) × SeatGrew accesses (first_of s.setup.code) a.seat.me es b.seat.me)
      → ((slot : ℕ) (p : IsPlacedInPage s.setup (now s.setup a) slot page new)
      → mine s.setup b.seat.me ≡ with_new_object s.setup (now s.setup a) (own_page slot page) p.object.object)
      → HasPossible s.setup b.seat.me → (end word : ℕ) → MadeShows s.program a b new end word
      → page.fill + new.words ≡ end → suc (page.page * s.setup.sizes.page_words + page.fill) ≡ word → ActorActed r a b 1 [] []
  made_here b own at_once grew stored possible end word shows ends points =
      let region = placed_it.0 in
      let p = placed_it.2 in
      let slot = slot_or_global s.setup.sizes.regions region in
      let f = own_page slot page in
      let object = p.object.object in
      let e = stored slot p in
      let follows = making_continues s a next before_it f object in
      let many = p.object.many in
      let shown = shows s.setup (now s.setup a) f object region before_it.stands.shows placed_it.1 refl
      (ap (λ n. page.fill + n) many ∙ ends) points in
      subst (λ (x : Run). ActorActed x a b 1 [] []) seen_is
      (acted_by s a b before_it.stands 1 [] [] grew.0 own at_once grew.1 possible
      (record {
        steps = ap steps_of e ∙ follows.steps;
        prints = ap (λ (d : Record). d.clock.prints) e ∙ follows.prints;
        children = ap (λ (d : Record). d.clock.children) e ∙ follows.children;
        first = ap (λ (d : Record). d.clock.first) e ∙ follows.first;
      })
      (subst (λ (d : Record). BodyShows s.setup s.program b.body d) (sym e)
      (like_shown s.setup s.program b.body (making s.setup (now s.setup a) f object) (with_new_object s.setup (now s.setup a) f object) shown
      (record {
        frame = refl;
        side = refl;
        fills = refl;
        reserved = refl;
        make = refl;
        claim = refl;
        give = refl;
        share = refl;
        owed = refl;
        prints = refl;
        refused = refl;
      }))))

-- ---- a spread object

module _ (r : Run) (a : Actor) (next : Next) (before : ActorIsBefore r a next) where
  abbrev d : Record
  d = now r.setup a

  abbrev after_apart : Position → Record
  after_apart p = record d {
    clock = record (ticked d.clock) {
      share = record d.clock.share { steps = suc d.clock.share.steps; objects = suc d.clock.share.objects };
    };
    frame = after_action r.setup.code d.frame p.w p.ws p.instr (given p.instr.op) (suc (reserved_address r.setup d));
    memory = with_object_apart d.memory;
  }

  making_apart_is : making_apart r.setup d ≡ after_apart (at (here r a next before))
  making_apart_is = moving_is (here r a next before) after_apart

  pub apart_continues : (object : Object) → Continues d (with_new_object_apart r.setup d object) 1 [] []
  apart_continues object =
      let is = making_apart_is in
      record {
        steps = ap steps_of is ∙ omega arith;
        prints = ap (λ (e : Record). e.clock.prints) is ∙ sym (append-nil d.clock.prints);
        children = ap (λ (e : Record). e.clock.children) is;
        first = ap (λ (e : Record). e.clock.first) is;
      }

-- the body shows the record after it
abbrev pub ApartShows : CompactProgram → (before after : Actor) → (word : ℕ) → Type 0
ApartShows p a b word = (T : Setup) (c : Record) → BodyShows T p a.body c → suc (reserved_address T c) ≡ word → BodyShows T p b.body (making_apart T c)

module _ (s r : Run) (seen_is : s ≡ r) (a : Actor) (next : Next) (before : ActorIsBefore r a next) (new : New) (pages : List ℕ)
    (placed : IsSpreadOverPages r.setup (now r.setup a) pages new) where
  before_apart : ActorIsBefore s a next
  before_apart = subst (λ (x : Run). ActorIsBefore x a next) (sym seen_is) before

  abbrev pub placed_apart : IsSpreadOverPages s.setup (now s.setup a) pages new
  placed_apart = subst (λ (x : Run). IsSpreadOverPages x.setup (now x.setup a) pages new) (sym seen_is) placed

  pub apart_here : (b : Actor) → b.seat.table_id ≡ a.seat.table_id → b.behind ≡ 0
      → (grew : (es : List Access) × SeatGrew accesses (first_of s.setup.code) a.seat.me es b.seat.me)
      → ((p : IsSpreadOverPages s.setup (now s.setup a) pages new)
      → mine s.setup b.seat.me ≡ with_new_object_apart s.setup (now s.setup a) p.object.object)
      → HasPossible s.setup b.seat.me → (word : ℕ) → ApartShows s.program a b word
      → suc (slice_index pages 0 * s.setup.sizes.page_words) ≡ word → ActorActed r a b 1 [] []
  apart_here b own at_once grew stored possible word shows points =
      let p = placed_apart in
      let object = p.object.object in
      let e = stored p in
      let follows = apart_continues s a next before_apart object in
      let address = ap (λ (ps : List ℕ). suc (slice_index ps 0 * s.setup.sizes.page_words)) p.reserved ∙ points in
      let shown = shows s.setup (now s.setup a) before_apart.stands.shows address in
      subst (λ (x : Run). ActorActed x a b 1 [] []) seen_is
      (acted_by s a b before_apart.stands 1 [] [] grew.0 own at_once grew.1 possible
      (record {
        steps = ap steps_of e ∙ follows.steps;
        prints = ap (λ (d : Record). d.clock.prints) e ∙ follows.prints;
        children = ap (λ (d : Record). d.clock.children) e ∙ follows.children;
        first = ap (λ (d : Record). d.clock.first) e ∙ follows.first;
      })
      (subst (λ (d : Record). BodyShows s.setup s.program b.body d) (sym e)
      (like_shown s.setup s.program b.body (making_apart s.setup (now s.setup a)) (with_new_object_apart s.setup (now s.setup a) object) shown
      (record {
        frame = refl;
        side = refl;
        fills = refl;
        reserved = refl;
        make = refl;
        claim = refl;
        give = refl;
        share = refl;
        owed = refl;
        prints = refl;
        refused = refl;
      }))))
