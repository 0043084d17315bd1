-- A world at a state of its run: what holds of the run there, and what a driver knows after turns, after meetings, and after the print
-- was cleared. The driver's facts are about the three-address machine; the run with regions that they come from is hidden in
-- `IsWorldAt`.
use Rattle.std.proofs.Common.{◌≡◌, ℕ, Bool, true, false, List, [], ◌++◌, Option, Some, None, Result, Ok, Err, refl, sym}
use Rattle.std.proofs.Common.{ap, ◌∙◌, subst, append_assoc, slice_get, option_and_then}
use Rattle.std.specs.Prelude.{IfOk}
use Rattle.std.proofs.lemmas.List.{append-nil}
use Rattle.std.specs.declared.alloc.AllocError.{AllocError}
use Rattle.rgo_machine.specs.declared.limits.Limits.{Limits}
use Rattle.rgo_machine.specs.declared.limits.Sizes.{Sizes}
use Rattle.rgo_machine.specs.declared.picks.Pick.TheVariants.{Meet}
use Rattle.rgo_machine.specs.declared.limits.Shortage.{Shortage}
use Rattle.rgo_interpreter.specs.declared.turns.TurnEnd.TheVariants as stop
use Rattle.rgo_interpreter.specs.declared.turns.Turned.{Turned}
use Rattle.rgo_interpreter.specs.Acting.{newest_stand, standing}
use Rattle.rgo_machine.specs.Limits.{is_within}
use Rattle.rgo_machine.specs.Machines.{Machine}
use Rattle.rgo_interpreter.specs.Meetings.{FindsMeeting}
use Rattle.rgo_machine.specs.Runs.{run}
use Rattle.rgo_interpreter.specs.Turns.{Turns}
use Rattle.rgo_tac.specs.Frames.{TacFrame}
use Rattle.rgo_tac.specs.Tac.{TacState, tac, tac_start, tac_step}
use Rattle.rgo_code.specs.Checked.{IsChecked}
use Rattle.rgo_code.specs.Code.{Code}
use Rattle.rgo_code.specs.Erasure.{erased}
use Rattle.rgo_code.specs.NameRules.{Ascends}
use Rattle.rgo_round_robin.specs.Running as driver
use Rattle.rgo_region_machine.specs.Machine.{Event, region_run, region_start}
use Rattle.rgo_region_machine.specs.Room.{roomy_run, roomy_step, LacksIn}
use Rattle.rgo_region_machine.specs.States.{RegionState, end_in, plain_at}
use Rattle.rgo_sound.proofs.offers.Offers.{runs_are_good}
use Rattle.rgo_sound.proofs.counts.Room.{room_is_kept}
use Rattle.rgo_region_interpreter.specs.declared.worlds.World.{World}
use Rattle.rgo_region_interpreter.specs.Views.{view_of}
use Rattle.rgo_region_interpreter.specs.Works.{Between, WorldIsBetween, WorldMeets, SamePrint, WorldStarts, WorldTakesSteps, TakesStep, TriesMeeting}
use Rattle.rgo_region_interpreter.specs.Worlds.{HoldersShow, Prepared, WorldReaches, Shown, IsWorldAt}
use Rattle.rgo_region_interpreter.proofs.owing.Attending.{leads_append}
use Rattle.rgo_region_interpreter.proofs.lifting.Steps.{none_of_kept}
use Rattle.rgo_region_interpreter.proofs.lifting.Good.{shown_none, shown_steps_alike, state_shows}
use Rattle.rgo_region_interpreter.proofs.holding.Orderly.{runs_are_orderly}

-- ---- where it is

-- it is between instructions, unless the run has ended
pub stands_between : (w : World) (given : List ℕ) (p : TacState) (at : IsWorldAt w given p) → p.ended ≡ None
    → Between w at.reaches.state
stands_between w given p at on = record {
  prepared = at.prepared;
  good = runs_are_good w.code.now w.sizes.page_words x.events x.state x.checked x.ascends is_run;
  orderly = runs_are_orderly w.code.now w.sizes.page_words x.events x.state x.checked x.ascends is_run;
  shown = at.shown;
  running = running;
  owes = at.owes running;
}
  where
    x : WorldReaches w given p
    x = at.reaches

    is_run : region_run w.code.now w.sizes.page_words x.events ≡ Some x.state
    is_run = room_is_kept.is_run w.code.now w.sizes x.events x.state x.run

    running : x.state.mark ≡ None
    running = at.unstopped (sym (ap (λ v. v.ended) x.is) ∙ on)

-- the state that the code keeps has not ended either
pub kept_goes_on : (w : World) (given : List ℕ) (p : TacState) → IsWorldAt w given p → p.ended ≡ None
    → w.state.ended ≡ None
kept_goes_on w given p at on = at.shown.ended ∙ sym (ap (λ v. v.ended) at.reaches.is) ∙ on

-- the same goroutines
pub kept_goroutines : (w : World) (given : List ℕ) (p : TacState) → IsWorldAt w given p
    → w.state.goroutines ≡ p.goroutines
kept_goroutines w given p at = at.shown.goroutines ∙ sym (ap (λ v. v.goroutines) at.reaches.is)

-- they are at the channels that it says
pub kept_standing : (w : World) (given : List ℕ) (p : TacState) → IsWorldAt w given p → (g : ℕ)
    → standing (tac (erased w.code.now)) w.state g ≡ standing (tac (erased w.code.now)) p g
kept_standing w given p at g =
    ap (λ gs. option_and_then (newest_stand (tac (erased w.code.now))) (slice_get gs g)) (kept_goroutines w given p at)

-- two that meet by the state that the code keeps do so
pub kept_meeting : (w : World) (given : List ℕ) (p : TacState) → IsWorldAt w given p → p.ended ≡ None
    → (found : Result (Option (ℕ × ℕ)) AllocError) → IfOk found (FindsMeeting (tac (erased w.code.now)) w.state)
    → IfOk found (FindsMeeting (tac (erased w.code.now)) p)
kept_meeting w given p at on found finds = go found finds
  where
    s : RegionState
    s = at.reaches.state

    between : Between w s
    between = stands_between w given p at on

    none_at : (receiver sender : ℕ) → tac_step (erased w.code.now) w.state (Meet receiver sender) ≡ None
        → tac_step (erased w.code.now) p (Meet receiver sender) ≡ None
    none_at receiver sender e =
        ap (λ q. tac_step (erased w.code.now) q (Meet receiver sender)) at.reaches.is
        ∙ shown_none w.code.now s between.prepared.checked between.good w.state (state_shows w s at.shown)
        (Meet receiver sender) e

    none_kept : (receiver sender : ℕ) → tac_step (erased w.code.now) p (Meet receiver sender) ≡ None
        → tac_step (erased w.code.now) w.state (Meet receiver sender) ≡ None
    none_kept receiver sender e =
        none_of_kept s.regions s.owners (plain_at s w.state.printed) w.state
        (tac_step (erased w.code.now) (plain_at s w.state.printed) (Meet receiver sender))
        (tac_step (erased w.code.now) w.state (Meet receiver sender))
        (shown_steps_alike w.code.now s between.prepared.checked between.good w.state (state_shows w s at.shown)
        (Meet receiver sender))
        (sym (ap (λ q. tac_step (erased w.code.now) q (Meet receiver sender)) at.reaches.is) ∙ e)

    go : (found : Result (Option (ℕ × ℕ)) AllocError) → IfOk found (FindsMeeting (tac (erased w.code.now)) w.state)
        → IfOk found (FindsMeeting (tac (erased w.code.now)) p)
    go (Ok None) finds = λ sender receiver. none_at receiver sender (finds sender receiver)
    go (Ok (Some met)) finds = λ e. finds (none_kept met.0 met.1 e)
    go (Err e) finds = finds

-- ---- where the run continues

-- the run of w continues to state t, with what v has printed
abbrev pub reaches_on : (w v : World) (given : List ℕ) (p : TacState) (x : WorldReaches w given p) (t : RegionState)
    (events : List Event) → run (roomy_step w.code.now w.sizes) x.state events ≡ Some t
    → v.code.now ≡ w.code.now → v.sizes ≡ w.sizes → SamePrint w v x.state t
    → WorldReaches v given (plain_at t v.state.printed)
reaches_on w v given p x t events leads code sizes prints = record {
  checked = subst IsChecked (sym code) x.checked;
  ascends = subst Ascends (sym code) x.ascends;
  events = x.events ++ events;
  state = t;
  run = subst (λ (z : Code × Sizes). roomy_run z.0 z.1 (x.events ++ events) ≡ Some t)
      (λ i. (sym code i, sym sizes i))
      (leads_append (roomy_step w.code.now w.sizes) x.events events (region_start w.code.now) x.state t x.run leads);
  is = refl;
  print = prints.whole
      ∙ ap (λ bytes. bytes ++ prints.bytes) x.print
      ∙ append_assoc given w.state.printed prints.bytes
      ∙ ap (λ bytes. given ++ bytes) (sym prints.kept);
}

-- and v is there
abbrev pub stands_on : (v : World) (given : List ℕ) (p : TacState) (x : WorldReaches v given p) → Prepared v
    → Shown v x.state → (end_in x.state.mark ≡ None → Between v x.state) → IsWorldAt v given p
stands_on v given p x prepared shown between = record {
  reaches = x;
  prepared = prepared;
  shown = shown;
  owes = λ m. (between (ap end_in m)).owes;
  unstopped = λ e. (between e).running;
}

-- the machine is the same
same_machine : (w v : World) → v.code.now ≡ w.code.now
    → ◌≡◌ {A = Machine TacFrame} (tac (erased v.code.now)) (tac (erased w.code.now))
same_machine w v code = ap (λ c. tac (erased c)) code

same_fixed : (w v : World) → v.code.now ≡ w.code.now → v.sizes ≡ w.sizes
    → ◌≡◌ {A = Code × Sizes} (v.code.now, v.sizes) (w.code.now, w.sizes)
same_fixed w v code sizes = λ i. (code i, sizes i)

-- ---- turns

pub is_on : (w : World) (limits : Limits) → driver.IsOn limits (view_of w) → WorldIsBetween w limits
is_on w limits on = record {
  state = on.shown.reaches.state;
  between = stands_between w on.given on.state on.shown on.on.running;
  within = subst (λ p. is_within limits p ≡ true) on.shown.reaches.is on.on.within;
}

module _ (w v : World) (limits : Limits) (g at_most : ℕ) (turned : Turned)
    (takes : WorldTakesSteps w v limits g at_most turned) where
  some_step : (on : driver.IsOn limits (view_of w)) → TakesStep w v limits (is_on w limits on).state g at_most turned
  some_step on = takes (is_on w limits on).state (is_on w limits on).between (is_on w limits on).within

  pub turn_machine : driver.IsOn limits (view_of w)
      → ◌≡◌ {A = Machine TacFrame} (tac (erased v.code.now)) (tac (erased w.code.now))
  turn_machine on = same_machine w v (some_step on).code

  pub turn_fixed : driver.IsOn limits (view_of w)
      → ◌≡◌ {A = Code × Sizes} (v.code.now, v.sizes) (w.code.now, w.sizes)
  turn_fixed on = same_fixed w v (some_step on).code (some_step on).sizes

  module _ (given : List ℕ) (p : TacState) (at : IsWorldAt w given p)
      (x : TakesStep w v limits at.reaches.state g at_most turned) where
    abbrev there : WorldReaches v given (plain_at x.state v.state.printed)
    there = reaches_on w v given p at.reaches x.state x.events x.leads x.code x.sizes x.prints

    abbrev stands : (turned.stop ≡ stop.NoMemory → ⊥) → IsWorldAt v given (plain_at x.state v.state.printed)
    stands n = stands_on v given (plain_at x.state v.state.printed) there (x.shown n).0 (x.shown n).1 (x.between n)

    not_memory : (why : Shortage) → turned.stop ≡ stop.NoRoom why → turned.stop ≡ stop.NoMemory → ⊥
    not_memory why e m = cc

    turn_by : driver.RunTakesTurn (view_of v) (tac (erased w.code.now)) limits given p g at_most turned
    turn_by = record {
      state = plain_at x.state v.state.printed;
      turns = subst (λ (q : TacState).
          Turns (tac (erased w.code.now)) limits q (plain_at x.state v.state.printed) g at_most turned)
          (sym at.reaches.is) x.turns;
      print = refl;
      leaves = there;
      shows = λ n. stands n;
      lacks = λ why e. (
        stands (not_memory why e),
        subst (λ (z : Code × Sizes). LacksIn z.0 z.1 why x.state) (λ i. (sym x.code i, sym x.sizes i)) (x.lacks why e),
      );
    }

  pub turn_taken : (given : List ℕ) (p : TacState) → IsWorldAt w given p → driver.RunContinues limits p
      → driver.RunTakesTurn (view_of v) (tac (erased w.code.now)) limits given p g at_most turned
  turn_taken given p at on = turn_by given p at (takes at.reaches.state (stands_between w given p at on.running)
      (subst (λ q. is_within limits q ≡ true) at.reaches.is on.within))

-- ---- meetings

module _ (w v : World) (receiver sender : ℕ) where
  -- the code and the sizes are the same
  same_after : (tried : Result Bool AllocError) → TriesMeeting w v receiver sender tried → driver.IsNotEnded (view_of w)
      → (v.code.now ≡ w.code.now) × (v.sizes ≡ w.sizes)
  same_after (Ok true) tries on = let x = tries on.shown.reaches.state
      (stands_between w on.given on.state on.shown on.running) in (x.code, x.sizes)
  same_after (Ok false) tries on = (ap (λ u. u.code.now) tries.0, ap (λ u. u.sizes) tries.0)
  same_after (Err e) tries on = (tries.code, tries.sizes)

  pub meet_machine : (tried : Result Bool AllocError) → TriesMeeting w v receiver sender tried
      → driver.IsNotEnded (view_of w) → ◌≡◌ {A = Machine TacFrame} (tac (erased v.code.now)) (tac (erased w.code.now))
  meet_machine tried tries on = same_machine w v (same_after tried tries on).0

  pub meet_fixed : (tried : Result Bool AllocError) → TriesMeeting w v receiver sender tried
      → driver.IsNotEnded (view_of w) → ◌≡◌ {A = Code × Sizes} (v.code.now, v.sizes) (w.code.now, w.sizes)
  meet_fixed tried tries on = same_fixed w v (same_after tried tries on).0 (same_after tried tries on).1

  module _ (given : List ℕ) (p : TacState) (at : IsWorldAt w given p) (on : p.ended ≡ None) where
    met : WorldMeets w v at.reaches.state receiver sender
        → (t : TacState) × (tac_step (erased w.code.now) p (Meet receiver sender) ≡ Some t) × IsWorldAt v given t
    met x = (
      plain_at x.state v.state.printed,
      ap (λ q. tac_step (erased w.code.now) q (Meet receiver sender)) at.reaches.is ∙ x.steps,
      stands_on v given (plain_at x.state v.state.printed)
          (reaches_on w v given p at.reaches x.state x.events x.leads x.code x.sizes x.prints) x.between.prepared
          x.between.shown (λ e. x.between),
    )

    pub meeting_tried : (tried : Result Bool AllocError) → TriesMeeting w v receiver sender tried
        → driver.TriesMeeting (view_of v) (tac (erased w.code.now)) given p receiver sender tried
    meeting_tried (Ok true) tries = met (tries at.reaches.state (stands_between w given p at on))
    meeting_tried (Ok false) tries = (
      ap (λ q. tac_step (erased w.code.now) q (Meet receiver sender)) at.reaches.is
          ∙ tries.1 at.reaches.state (stands_between w given p at on),
      subst (λ u. IsWorldAt u given p) (sym tries.0) at,
    )
    meeting_tried (Err e) tries = (
      record {
        checked = subst IsChecked (sym tries.code) at.reaches.checked;
        ascends = subst Ascends (sym tries.code) at.reaches.ascends;
        events = at.reaches.events;
        state = at.reaches.state;
        run = subst (λ (z : Code × Sizes). roomy_run z.0 z.1 at.reaches.events ≡ Some at.reaches.state)
            (λ i. (sym tries.code i, sym tries.sizes i)) at.reaches.run;
        is = at.reaches.is ∙ ap (plain_at at.reaches.state) (sym tries.print);
        print = at.reaches.print ∙ ap (λ bytes. given ++ bytes) (sym tries.print);
      },
      ap (λ q. q.printed) at.reaches.is ∙ sym tries.print,
    )

-- ---- the print

module _ (w : World) where
  abbrev cleared : World
  cleared = record w { state = record w.state { printed = [] } }

  abbrev reaches_cleared : (given : List ℕ) (p : TacState) → WorldReaches w given p
      → WorldReaches cleared (given ++ p.printed) (record p { printed = [] })
  reaches_cleared given p x = record {
    checked = x.checked;
    ascends = x.ascends;
    events = x.events;
    state = x.state;
    run = x.run;
    is = ap (λ (q : TacState). record q { printed = [] }) x.is;
    print = x.print
        ∙ ap (λ bytes. given ++ bytes) (sym (ap (λ q. q.printed) x.is))
        ∙ sym (append-nil (given ++ p.printed));
  }

  holders_cleared : (s : RegionState) → HoldersShow w s → HoldersShow cleared s
  holders_cleared s h = record { as_many = h.as_many; each = h.each; unmade = h.unmade }

  shown_cleared : (s : RegionState) → Shown w s → Shown cleared s
  shown_cleared s x = record {
    goroutines = x.goroutines;
    memory = x.memory;
    before = s.plain.printed;
    printed = sym (append-nil s.plain.printed);
    ended = x.ended;
    goes_on = x.goes_on;
    table = x.table;
    holders = λ m. holders_cleared s (x.holders m);
  }

  prepared_cleared : Prepared w → Prepared cleared
  prepared_cleared x = record { checked = x.checked; ascends = x.ascends; marks = x.marks; formals = x.formals }

  abbrev stands_cleared : (given : List ℕ) (p : TacState) → IsWorldAt w given p
      → IsWorldAt cleared (given ++ p.printed) (record p { printed = [] })
  stands_cleared given p at = record {
    reaches = reaches_cleared given p at.reaches;
    prepared = prepared_cleared at.prepared;
    shown = shown_cleared at.reaches.state at.shown;
    owes = at.owes;
    unstopped = at.unstopped;
  }

  -- what was printed is written out
  pub clears : driver.Clears (view_of w) (view_of (record w { state = record w.state { printed = [] } }))
  clears = record {
    machine = refl;
    print = refl;
    fixed = refl;
    shows = stands_cleared;
    leaves = reaches_cleared;
    lacks = λ why given p at. (stands_cleared given p at.0, at.1);
  }

-- ---- the start

pub starts_stand : (code : Code) (sizes : Sizes) (w : World) → WorldStarts code sizes w
    → IsWorldAt w [] (tac_start (erased code))
starts_stand code sizes w x = record {
  reaches = record {
    checked = x.between.prepared.checked;
    ascends = x.between.prepared.ascends;
    events = [];
    state = region_start code;
    run = ap (λ c. Some (region_start c)) x.code_is;
    is = λ i. record (tac_start (erased code)) { printed = sym x.print i };
    print = sym x.print;
  };
  prepared = x.between.prepared;
  shown = x.between.shown;
  owes = λ m. x.between.owes;
  unstopped = λ e. refl;
}
