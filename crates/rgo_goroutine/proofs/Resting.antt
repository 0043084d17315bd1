-- What counts as an act of the turn although it has made no access: nothing has changed, or the body alone.
use Rattle.std.proofs.Common.{◌≡◌, ◌<◌, ◌≤◌, Bool, true, false, if◌then◌else◌, List, [], ◌∷◌, ◌++◌, Option, Some, None, length, slice_get, refl, ap, sym, subst, ◌∙◌, arith}
use Rattle.std.proofs.lemmas.List.{append-nil}
use Rattle.std.proofs.lemmas.Option.{none-some}
use mathlib.Core.Option.{some-ne-none}
use Rattle.rgo_sound.specs.Code.Code.{Code}
use Rattle.rgo_acts.proofs.Facts.ControlFrames.{all_in_code}
use Rattle.rgo_core.specs.Frames.shown.WordFrames.{WordFrame, bare, bare_all}
use Rattle.rgo_core.specs.Rule.Views.{number_of}
use Rattle.rgo_core.specs.runs.Opening.{first_of}
use Rattle.rgo_core.specs.Records.{Record, accesses, steps_of}
use Rattle.rgo_core_steps.specs.Grown.{SeatGrew}
use Rattle.rgo_core_steps.specs.Seats.{settled}
use Rattle.rgo_core_steps.proofs.accesses.Growing.{grew_none}
use Rattle.rgo_sound.specs.RegionMachine.Owed.{current, next_duties}
use Rattle.rgo_sound.specs.RegionMachine.States.{Duty}
use Rattle.rgo_acts.specs.Body.Bodies.{frames_of_body, owed_by_body}
use Rattle.rgo_acts.specs.Body.Nexts.{FrameHasNoNext}
use Rattle.rgo_acts.specs.Body.Steps.{StillShows}
use Rattle.rgo_acts.specs.Body.declared.bodies.Body.{Body}
use Rattle.rgo_acts.specs.Actors.{IsActorOf, now}
use Rattle.rgo_acts.specs.Runs.{Run}
use Rattle.rgo_acts.specs.declared.actors.Actor.{Actor}
use Rattle.rgo_acts.proofs.computing.LocalActs.{none_done}
use Rattle.rgo_goroutine.specs.Acting.{GoroutineActed, GoroutineActs, MayMakeInstructions, GoroutineMoved, GoroutineRests, SameFirst, StopsBy, record_now}
use Rattle.rgo_goroutine.specs.Goroutines.{ungathered_prints}
use Rattle.rgo_goroutine.specs.Instructions.{MakesInstruction}
use Rattle.rgo_goroutine.specs.Turns.{HasFinished}
use Rattle.rgo_goroutine.specs.declared.goroutine.Goroutine.{Goroutine}
use Rattle.rgo_goroutine.specs.declared.turning.TableTurnEnd.{TableTurnEnd}
use Rattle.rgo_goroutine.specs.declared.turning.TableTurnEnd.TheVariants as stop
use Rattle.rgo_goroutine.specs.declared.turning.Turning.{Turning}
use Rattle.rgo_goroutine.proofs.Concluding.{no_answer}
use Rattle.rgo_goroutine.proofs.Lifting.{moves}

-- ---- an actor that has made no access and no local step

pub record StaysPut (r : Run) (a b : Actor) : Type 0 where
  pub seat : b.seat ≡ a.seat
  pub behind : b.behind ≡ a.behind
  pub stands : IsActorOf r b

-- its body shows what it showed
pub put_by : (r : Run) (a : Actor) (d : Body) → IsActorOf r a → StillShows r.program a.body d → StaysPut r a (record a { body = d })
put_by r a d stands stays = record {
  seat = refl;
  behind = refl;
  stands = (none_done r a (record a { body = d }) stands refl refl stays).stands;
}

-- it is still of the run
pub put_with : (r : Run) (a b : Actor) (d : Body) → b ≡ record a { body = d } → IsActorOf r b → StaysPut r a b
put_with r a b d is stands = record {
  seat = ap (λ (x : Actor). x.seat) is;
  behind = ap (λ (x : Actor). x.behind) is;
  stands = stands;
}

pub put_same : (r : Run) (a b : Actor) → b ≡ a → IsActorOf r a → StaysPut r a b
put_same r a b is stands = put_with r a b a.body is (subst (IsActorOf r) (sym is) stands)

module _ (r : Run) (old : Goroutine) (b : Actor) (t : Turning) (goes : MayMakeInstructions r old t.left) (put : StaysPut r old.actor b) where
  abbrev pub its : Goroutine
  its = record old { actor = b }

  pub now_is : record_now r its ≡ record_now r old
  now_is = ap (λ x. settled r.setup b.behind x.me) put.seat ∙ ap (λ q. settled r.setup q old.actor.seat.me) put.behind

  pub put_first : SameFirst r old its
  put_first = ap (λ (c : Record). c.clock.first) now_is

  pub put_moved : GoroutineMoved r old its 0 []
  put_moved = record {
    grew = subst (λ x. SeatGrew accesses (first_of r.setup.code) old.actor.seat.me [] x.me) (sym put.seat)
        (grew_none accesses (first_of r.setup.code) old.actor.seat.me goes.stands.alone);
    steps = let e = ap steps_of now_is in omega (arith, e);
    draws = [];
    fresh = sym (append-nil (ungathered_prints old));
    printed = ap (λ (c : Record). c.clock.prints) now_is ∙ sym (append-nil (record_now r old).clock.prints);
    starts = [];
    newborn = sym (append-nil old.children.items);
    started = ap (λ (c : Record). c.clock.children) now_is;
  }

  pub put_goes : MayMakeInstructions r its t.left
  put_goes = record {
    stands = put.stands;
    number = goes.number ∙ sym (ap (λ x. number_of x.me) put.seat);
    few = let p = ap (λ (c : Record). length c.clock.prints) now_is in let s = ap steps_of now_is in let few = goes.few in
        omega (arith, p, s, few);
    room = let s = ap steps_of now_is in let room = goes.room in omega (arith, s, room);
    all = goes.all;
    first = put_first ∙ goes.first;
  }

  pub put_rests : GoroutineRests r old its []
  put_rests = record { words = λ i x there own. absurd (some-ne-none x (sym there)); frame = ap (λ (c : Record). c.frame) now_is }

  abbrev pub put_acted : GoroutineActed r old its t t
  put_acted = record {
    n = 0;
    es = [];
    moved = put_moved;
    left = omega arith;
    noted = omega arith;
    still = λ e. (e, refl, put_rests);
  }

  pub put_on : t.changed.count ≤ 6 → GoroutineActs r old its t t None
  put_on within = record { acted = put_acted; goes = put_goes; noted = within; concludes = put_first }

  pub put_stops : (why : TableTurnEnd) → StopsBy r old its [] why → t.changed.count ≤ 6 → GoroutineActs r old its t t (Some why)
  put_stops why by within = record { acted = put_acted; goes = put_goes; noted = within; concludes = by }

  pub put_halts : t.changed.count < 6 → MakesInstruction r old its t t (Some stop.NoMemory)
  put_halts noted = record {
    acts = put_stops stop.NoMemory put_first (omega (arith, noted));
    progress = λ e. absurd (no_answer stop.NoMemory e);
  }

-- ---- the turn has first remembered that something may have moved

pub acts_moved : (r : Run) (old new : Goroutine) (t v u : Turning) (answer : Option TableTurnEnd) → v ≡ record t { moved = true }
    → GoroutineActs r old new v u answer → GoroutineActs r old new t u answer
acts_moved r old new t v u answer e y =
    let left = ap (λ (x : Turning). x.left) e in
    let changed = ap (λ (x : Turning). x.changed.count) e in
    record {
      acted = record {
        n = y.acted.n;
        es = y.acted.es;
        moved = y.acted.moved;
        left = (let l = y.acted.left in omega (arith, l, left));
        noted = (let c = y.acted.noted in omega (arith, c, changed));
        still = λ f. absurd (moves v.moved (ap (λ (x : Turning). x.moved) e) (y.acted.still f).0);
      };
      goes = y.goes;
      noted = y.noted;
      concludes = y.concludes;
    }

pub goes_moved : (r : Run) (go : Goroutine) (t v : Turning) → v ≡ record t { moved = true } → MayMakeInstructions r go t.left → MayMakeInstructions r go v.left
goes_moved r go t v e goes = subst (λ n. MayMakeInstructions r go n) (sym (ap (λ (x : Turning). x.left) e)) goes

-- ---- its first function has returned

owes_nothing : (code : Code) (b : Body) → b.queue.duties ≡ [] → frames_of_body b ≡ [] → owed_by_body code b ≡ []
owes_nothing code b empty none =
    ap (λ (ds : List Duty). ds ++ (if b.is_expanded then [] else next_duties code (bare_all (frames_of_body b)))) empty
    ∙ (ap (λ (fs : List WordFrame). if b.is_expanded then [] else next_duties code (bare_all fs)) none ∙ either b.is_expanded)
  where
    either : (e : Bool) → (if e then [] else next_duties code []) ≡ []
    either true = refl
    either false = refl

pub is_over : (r : Run) (a : Actor) → IsActorOf r a → FrameHasNoNext r.program.code (frames_of_body a.body) → a.body.queue.duties ≡ []
    → HasFinished (now r.setup a)
is_over r a stands nothing empty =
    let none = no_frame (now r.setup a).frame.frames refl in
    record {
      frames = none;
      duties = stands.shows.owes ∙ owes_nothing r.program.code a.body empty (sym stands.shows.frames ∙ none);
    }
  where
    no_frame : (ws : List WordFrame) → (now r.setup a).frame.frames ≡ ws → ws ≡ []
    no_frame [] e = refl
    no_frame (w ∷ ws) e =
        let i = all_in_code r.setup (number_of a.seat.me) (now r.setup a) stands.possible 0 w
        (ap (λ (l : List WordFrame). slice_get l 0) e) in
        absurd (none-some i.instr
        (sym (nothing w ws (sym stands.shows.frames ∙ e))
        ∙ (ap (λ (code : Code). current code (bare w)) (sym stands.shows.code) ∙ i.cur)))
