-- A turn: acts one after another, and a load of the clock at its end. The load makes the record whole; that the reason outlasts it is by
-- `Lasting`.
use Rattle.std.proofs.Common.{◌≡◌, ◌⊎◌, inl, inr, ◌+◌, ◌<◌, ◌≤◌, ℕ, false, List, [], ◌++◌, Some, None, length, refl, ap, sym, subst, ◌∙◌, append_assoc, arith}
use Rattle.std.proofs.lemmas.List.{append-nil}
use Rattle.rgo_core.specs.Channels.Records.{Free, ChannelRec as SideRec}
use Rattle.rgo_core.specs.Rule.declared.accesses.Access.{Access}
use Rattle.rgo_core.specs.runs.Opening.{first_of}
use Rattle.rgo_core.specs.Records.{Drawn, Record, accesses, steps_of}
use Rattle.rgo_core_steps.specs.Grown.{SeatGrew}
use mathlib.Core.Option.{some-ne-none}
use Rattle.rgo_core_steps.proofs.accesses.Growing.{grew_none}
use Rattle.rgo_sound.specs.RegionMachine.States.{Offer}
use Rattle.rgo_acts.specs.Body.Shows.{SideShows}
use Rattle.rgo_acts.specs.Body.declared.bodies.Side.{Side}
use Rattle.rgo_acts.specs.Body.declared.bodies.Side.TheVariants as side
use Rattle.rgo_acts.specs.Runs.{Run}
use Rattle.rgo_acts.proofs.Standing.{now_accesses, now_at_once}
use Rattle.rgo_goroutine.specs.Acting.{GoroutineActs, MayMakeInstructions, HasCaughtUp, IsOverFor, GoroutineMoved, Proceeds, StopsBy, record_now}
use Rattle.rgo_goroutine.specs.Goroutines.{IsOf, ungathered_prints, numbers, record_of_goroutine}
use Rattle.rgo_goroutine.specs.Turns.{HasTurned, TurnChangesNothing, IsTidy, TurnStops, GoroutineTurns}
use Rattle.rgo_goroutine.specs.declared.goroutine.Goroutine.{Goroutine}
use Rattle.rgo_goroutine.specs.declared.waking.Changed.{Changed}
use Rattle.rgo_goroutine.specs.declared.turning.TableTurnEnd.{TableTurnEnd}
use Rattle.rgo_goroutine.specs.declared.turning.TableTurnEnd.TheVariants as stop
use Rattle.rgo_goroutine.specs.declared.turning.Turned.{Turned}
use Rattle.rgo_goroutine.specs.declared.turning.Turning.{Turning}
use Rattle.rgo_goroutine.proofs.Joining.{moved_then, numbers_append, rests_then}
use Rattle.rgo_goroutine.proofs.Lasting.{stops_last}

-- ---- between turns

-- its record has all its local steps
pub now_is : (r : Run) (go : Goroutine) → go.actor.behind ≡ 0 → record_now r go ≡ record_of_goroutine r.setup go
now_is r go settled = now_at_once r.setup go.actor settled

pub goes_of : (r : Run) (go : Goroutine) (slice : ℕ) → IsOf r go → steps_of (record_of_goroutine r.setup go) + slice < 8796093022208 → MayMakeInstructions r go slice
goes_of r go slice of room =
    let e = now_is r go of.settled in
    let s = ap steps_of e in
    record {
      stands = of.stands;
      number = of.number;
      few = (let p = ap (λ (c : Record). length c.clock.prints) e in let few = of.few in omega (arith, p, s, few));
      room = omega (arith, s, room);
      all = of.all;
      first = ap (λ (c : Record). c.clock.first) e ∙ of.first;
    }

-- ---- nothing done yet

pub acts_none : (r : Run) (go : Goroutine) (t : Turning) → MayMakeInstructions r go t.left → t.changed.count ≤ 6 → GoroutineActs r go go t t None
acts_none r go t goes within = record {
  acted = record {
    n = 0;
    es = [];
    moved = record {
      grew = grew_same;
      steps = omega arith;
      draws = [];
      fresh = sym (append-nil (ungathered_prints go));
      printed = sym (append-nil (record_now r go).clock.prints);
      starts = [];
      newborn = sym (append-nil go.children.items);
      started = refl;
    };
    left = omega arith;
    noted = omega arith;
    still = λ e. (e, refl, record { words = λ i a there its. absurd (some-ne-none a (sym there)); frame = refl });
  };
  goes = goes;
  noted = within;
  concludes = refl;
}
  where
    grew_same : SeatGrew accesses (first_of r.setup.code) go.actor.seat.me [] go.actor.seat.me
    grew_same = grew_none accesses (first_of r.setup.code) go.actor.seat.me goes.stands.alone

-- ---- the turn is over

over_by : (r : Run) (old new : Goroutine) (u : Turning) (es : List Access) (why : TableTurnEnd) → StopsBy r old new es why → IsOverFor r old new u es why
over_by r old new u es stop.Went (first, end) = (first, inr end)
over_by r old new u es (stop.Blocked at operation) by = by
over_by r old new u es (stop.Lost at) by = by
over_by r old new u es stop.Ended by = by
over_by r old new u es (stop.Stopped mark) by = by
over_by r old new u es (stop.Short why) by = by
over_by r old new u es stop.NoMemory by = by

pub stopped : (r : Run) (old new : Goroutine) (t u : Turning) (why : TableTurnEnd) → GoroutineActs r old new t u (Some why) → Proceeds r old new t u why
stopped r old new t u why acts = record {
  acted = acts.acted;
  goes = acts.goes;
  over = over_by r old new u acts.acted.es why acts.concludes;
}

pub used_up : (r : Run) (old new : Goroutine) (t u : Turning) → GoroutineActs r old new t u None → (u.left ≡ 0) ⊎ (u.changed.count ≡ 6)
    → Proceeds r old new t u stop.Went
used_up r old new t u acts full = record { acted = acts.acted; goes = acts.goes; over = (acts.concludes, inl full) }

-- ---- no channel is locked

side_free : (s : Side) (k : SideRec) (o : Offer) → SideShows s k o → k.hold ≡ Free
side_free side.AtRest k o shows = ap (λ (x : SideRec). x.hold) shows.0
side_free side.Tried k o shows = shows.0
side_free (side.Offering at) k o shows = shows.0

pub tidy : (r : Run) (go : Goroutine) (left : ℕ) → MayMakeInstructions r go left → go.actor.behind ≡ 0 → IsTidy (record_of_goroutine r.setup go)
tidy r go left goes settled = subst IsTidy (now_is r go settled) (record {
  hold = side_free go.actor.body.side (record_now r go).side (record_now r go).frame.holder.offer goes.stands.shows.side;
  make = goes.stands.shows.calm.make;
  claim = goes.stands.shows.calm.claim;
  give = goes.stands.shows.calm.give;
})

-- ---- a whole turn: it proceeds from `old` to `mid`, and then loads the clock

module _ (r : Run) (old mid new : Goroutine) (t u : Turning) (why : TableTurnEnd) (of : IsOf r old) (p : Proceeds r old mid t u why)
    (up : HasCaughtUp r mid new u.left) where
  abbrev es : List Access
  es = p.acted.es ++ up.es

  all_moved : GoroutineMoved r old new (p.acted.n + 0) es
  all_moved = moved_then r old mid new p.acted.n 0 p.acted.es up.es p.acted.moved up.moved

  old_is : record_now r old ≡ record_of_goroutine r.setup old
  old_is = now_is r old of.settled

  new_is : record_now r new ≡ record_of_goroutine r.setup new
  new_is = now_is r new up.settled

  steps_are : steps_of (record_of_goroutine r.setup new) ≡ steps_of (record_of_goroutine r.setup old) + p.acted.n
  steps_are = let a = ap steps_of old_is in let b = ap steps_of new_is in let s = all_moved.steps in omega (arith, a, b, s)

  prints_are : (record_of_goroutine r.setup new).clock.prints ≡ (record_of_goroutine r.setup old).clock.prints ++ all_moved.draws
  prints_are =
      sym (ap (λ (c : Record). c.clock.prints) new_is)
      ∙ (all_moved.printed ∙ ap (λ (c : Record). c.clock.prints ++ all_moved.draws) old_is)

  children_are : (record_of_goroutine r.setup new).clock.children ≡ numbers all_moved.starts ++ (record_of_goroutine r.setup old).clock.children
  children_are =
      sym (ap (λ (c : Record). c.clock.children) new_is)
      ∙ (all_moved.started ∙ ap (λ (c : Record). numbers all_moved.starts ++ c.clock.children) old_is)

  pub of_after : IsOf r new
  of_after = record {
    stands = up.goes.stands;
    number = up.goes.number;
    settled = up.settled;
    gathered = of.gathered;
    prints = prints_are
        ∙ (ap (λ (l : List Drawn). l ++ all_moved.draws) of.prints
        ∙ (append_assoc of.gathered (ungathered_prints old) all_moved.draws ∙ ap (λ (l : List Drawn). of.gathered ++ l) (sym all_moved.fresh)));
    few = (let e = ap (λ (c : Record). length c.clock.prints) new_is in let s = ap steps_of new_is in let f = up.goes.few in
        omega (arith, e, s, f));
    adopted = of.adopted;
    children = children_are
        ∙ (ap (λ (l : List ℕ). numbers all_moved.starts ++ l) of.children
        ∙ (sym (append_assoc (numbers all_moved.starts) (numbers old.children.items) of.adopted)
        ∙ ap (λ (l : List ℕ). l ++ of.adopted)
        (sym (numbers_append old.children.items all_moved.starts) ∙ ap numbers (sym all_moved.newborn))));
    all = up.goes.all;
    first = sym (ap (λ (c : Record). c.clock.first) new_is) ∙ up.goes.first;
  }

  accesses_are : accesses (record_of_goroutine r.setup old) < accesses (record_of_goroutine r.setup new)
  accesses_are =
      let a = now_accesses r.setup mid.actor in
      let b = now_accesses r.setup new.actor in
      let first = p.acted.moved.grew.more in
      let some = up.some in
      omega (arith, a, b, first, some)

  pub turns_are : GoroutineTurns r old new p.acted.n es
  turns_are = record {
    grew = all_moved.grew;
    some = accesses_are;
    steps = steps_are;
    draws = all_moved.draws;
    fresh = all_moved.fresh;
    printed = prints_are;
    starts = all_moved.starts;
    newborn = all_moved.newborn;
    started = children_are;
  }

  -- where nothing has moved
  pub still_are : u.moved ≡ false → (p.acted.n ≡ 0) × TurnChangesNothing r old new es
  still_are none =
      let s = p.acted.still none in
      let rests = rests_then r old mid new p.acted.es up.es p.acted.moved.grew s.2 up.rests in (
        s.1,
        record {
          words = rests.words;
          frame = sym (ap (λ (c : Record). c.frame) new_is) ∙ (rests.frame ∙ ap (λ (c : Record). c.frame) old_is);
        },
      )

  pub stops_are : (slice n : ℕ) → (u.left ≡ 0 → n ≡ slice) → TurnStops r old new slice n u.changed.count es why
  stops_are slice n all = stops_last r old mid new u slice n p.acted.es up.es old_is (sym new_is ∙ up.is) all
      (ap (λ (go : Goroutine). go.prints.items) up.rest) why p.over

-- what it reports of itself
pub has_turned : (r : Run) (old mid new : Goroutine) (t u : Turning) (turned : Turned) (of : IsOf r old)
    (p : Proceeds r old mid t u turned.stop) (up : HasCaughtUp r mid new u.left) → turned.steps + u.left ≡ t.left
    → turned.moved ≡ u.moved → turned.changed ≡ u.changed → HasTurned r old new t.left turned
has_turned r old mid new t u turned of p up steps moved changed =
    let left = p.acted.left in
    let made : p.acted.n ≡ turned.steps = omega (arith, left, steps) in
    record {
      es = es r old mid new t u turned.stop of p up;
      turns = subst (λ (n : ℕ). GoroutineTurns r old new n (es r old mid new t u turned.stop of p up)) made
          (turns_are r old mid new t u turned.stop of p up);
      within = omega (arith, steps);
      still = λ none.
          let s = still_are r old mid new t u turned.stop of p up (sym moved ∙ none) in
          (sym made ∙ s.0, s.1);
      stops = subst (λ (k : Changed). TurnStops r old new t.left turned.steps k.count (es r old mid new t u turned.stop of p up) turned.stop)
          (sym changed)
          (stops_are r old mid new t u turned.stop of p up t.left turned.steps (λ none. omega (arith, steps, none)));
    }
