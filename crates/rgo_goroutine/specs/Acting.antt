-- A goroutine during a turn, and what each of its acts leaves. All acts have the same form, so a turn is proved once, over acts.
use Rattle.std.specs.Option.{option_map}
use Rattle.std.specs.Prelude.{◌≡◌, ◌⊎◌, ◌+◌, ◌-◌, ◌<◌, ◌≤◌, ℕ, Bool, false, List, ◌++◌, Option, Some, None, if◌then◌else◌, length}
use Rattle.rgo_core.specs.Rule.Passes.{ChangesNothingBy}
use Rattle.rgo_core.specs.Rule.Views.{number_of}
use Rattle.rgo_core.specs.Rule.declared.accesses.Access.{Access}
use Rattle.rgo_core.specs.runs.Opening.{first_of}
use Rattle.rgo_core.specs.Records.{Drawn, Record, accesses, looked, steps_of}
use Rattle.rgo_core_steps.specs.Ends.{mark_of}
use Rattle.rgo_core_steps.specs.declared.clock.Mark.{Mark}
use Rattle.rgo_core_steps.specs.Grown.{SeatGrew}
use Rattle.rgo_acts.specs.Actors.{IsActorOf, now}
use Rattle.rgo_acts.specs.Endings.{ActorHasEnded}
use Rattle.rgo_acts.specs.Runs.{Run}
use Rattle.rgo_acts.specs.Waits.{Loses, WaitsAtChannel}
use Rattle.rgo_goroutine.specs.Goroutines.{AreChildren, HoldsMuch, ungathered_prints, numbers}
use Rattle.rgo_goroutine.specs.Turns.{FoundEnd, HasFinished, LacksFor}
use Rattle.rgo_goroutine.specs.declared.goroutine.Child.{Child}
use Rattle.rgo_goroutine.specs.declared.goroutine.Goroutine.{Goroutine}
use Rattle.rgo_goroutine.specs.declared.turning.TableTurnEnd.{TableTurnEnd}
use Rattle.rgo_goroutine.specs.declared.turning.TableTurnEnd.TheVariants as stop
use Rattle.rgo_goroutine.specs.declared.turning.Turning.{Turning}

abbrev pub record_now : Run → Goroutine → Record
record_now r go = now r.setup go.actor

-- It is of this run, and may make `left` instructions more without coming near to what can be counted.
pub record MayMakeInstructions (r : Run) (go : Goroutine) (left : ℕ) : Type 0 where
  pub stands : IsActorOf r go.actor
  pub number : go.number ≡ number_of go.actor.seat.me
  -- each print was an instruction, so `room` bounds the tickets, too
  pub few : length (record_now r go).clock.prints ≤ steps_of (record_now r go)
  pub room : steps_of (record_now r go) + left < 8796093022208
  pub all : AreChildren r go.children.items
  pub first : (record_now r go).clock.first ≡ option_map mark_of go.first

-- From one moment of a turn to another: its seat has seen the accesses es more, its own among them; it has made n instructions; what
-- it has drawn and started comes to what was not yet taken from it. The end mark is a matter of its own.
pub record GoroutineMoved (r : Run) (old new : Goroutine) (n : ℕ) (es : List Access) : Type 0 where
  pub grew : SeatGrew accesses (first_of r.setup.code) old.actor.seat.me es new.actor.seat.me
  pub steps : steps_of (record_now r new) ≡ steps_of (record_now r old) + n
  pub draws : List Drawn
  pub fresh : ungathered_prints new ≡ ungathered_prints old ++ draws
  pub printed : (record_now r new).clock.prints ≡ (record_now r old).clock.prints ++ draws
  pub starts : List Child
  pub newborn : new.children.items ≡ old.children.items ++ starts
  pub started : (record_now r new).clock.children ≡ numbers starts ++ (record_now r old).clock.children

-- its accesses changed no word, and its frames and what it has of regions are as before
pub record GoroutineRests (r : Run) (old new : Goroutine) (es : List Access) : Type 0 where
  pub words : ChangesNothingBy (number_of old.actor.seat.me) es
  pub frame : (record_now r new).frame ≡ (record_now r old).frame

-- What an act has in common, whatever it came to: it has made as many instructions as the turn has less of, and where nothing has
-- moved by then, it has left all as it was.
pub record GoroutineActed (r : Run) (old new : Goroutine) (t u : Turning) : Type 0 where
  pub n : ℕ
  pub es : List Access
  pub moved : GoroutineMoved r old new n es
  -- no instruction is made that the turn does not count
  pub left : t.left ≡ u.left + n
  pub noted : t.changed.count ≤ u.changed.count
  -- the driver looks for deadlocks and shortages only among goroutines that have not moved
  pub still : u.moved ≡ false → (t.moved ≡ false) × (n ≡ 0) × GoroutineRests r old new es

abbrev pub SameFirst : Run → (old new : Goroutine) → Type 0
SameFirst r old new = (record_now r new).clock.first ≡ (record_now r old).clock.first

-- ---- what an act came to

-- How much the turn may still do: instructions, and entries in its list of changes. Each act that continues lowers it, so the loop
-- of a turn ends.
abbrev pub room_in_turn : Turning → ℕ
room_in_turn t = t.left + (6 - t.changed.count)

-- why the turn is over after it; es are the accesses of the act
abbrev pub StopsBy : (r : Run) (old new : Goroutine) (es : List Access) → TableTurnEnd → Type 0
StopsBy r old new es stop.Went = SameFirst r old new × (HoldsMuch new ⊎ FoundEnd (number_of old.actor.seat.me) es)
StopsBy r old new es (stop.Blocked at operation) =
    SameFirst r old new × WaitsAtChannel r.setup (number_of old.actor.seat.me) (record_now r new) es at
StopsBy r old new es (stop.Lost at) =
    SameFirst r old new × Loses r.setup (number_of old.actor.seat.me) (record_now r new) es at
StopsBy r old new es stop.Ended = SameFirst r old new × HasFinished (record_now r new)
StopsBy r old new es (stop.Stopped mark) = (record_now r new).clock.first ≡ Some (mark_of mark)
StopsBy r old new es (stop.Short why) =
    SameFirst r old new × LacksFor why r.setup (number_of old.actor.seat.me) (record_now r new) es
StopsBy r old new es stop.NoMemory = SameFirst r old new

-- the turn continues, or is over
abbrev pub ActConcludes : (r : Run) (old new : Goroutine) (es : List Access) → Option TableTurnEnd → Type 0
ActConcludes r old new es None = SameFirst r old new
ActConcludes r old new es (Some why) = StopsBy r old new es why

pub record GoroutineActs (r : Run) (old new : Goroutine) (t u : Turning) (answer : Option TableTurnEnd) : Type 0 where
  pub acted : GoroutineActed r old new t u
  pub goes : MayMakeInstructions r new u.left
  pub noted : u.changed.count ≤ 6
  pub concludes : ActConcludes r old new acted.es answer

-- the turn may do less than before
abbrev pub TurnProgresses : (t u : Turning) → Type 0
TurnProgresses t u = room_in_turn u < room_in_turn t

-- ---- several acts

-- The turn was over for this reason, by its last act, or since all its instructions were made, or since its list of changes is
-- full.
abbrev pub IsOverFor : (r : Run) (old new : Goroutine) (u : Turning) (es : List Access) → TableTurnEnd → Type 0
IsOverFor r old new u es stop.Went =
    SameFirst r old new × (((u.left ≡ 0) ⊎ (u.changed.count ≡ 6)) ⊎ (HoldsMuch new ⊎ FoundEnd (number_of old.actor.seat.me) es))
IsOverFor r old new u es (stop.Blocked at operation) = StopsBy r old new es (stop.Blocked at operation)
IsOverFor r old new u es (stop.Lost at) = StopsBy r old new es (stop.Lost at)
IsOverFor r old new u es stop.Ended = StopsBy r old new es stop.Ended
IsOverFor r old new u es (stop.Stopped mark) = StopsBy r old new es (stop.Stopped mark)
IsOverFor r old new u es (stop.Short why) = StopsBy r old new es (stop.Short why)
IsOverFor r old new u es stop.NoMemory = StopsBy r old new es stop.NoMemory

pub record Proceeds (r : Run) (old new : Goroutine) (t u : Turning) (why : TableTurnEnd) : Type 0 where
  pub acted : GoroutineActed r old new t u
  pub goes : MayMakeInstructions r new u.left
  pub over : IsOverFor r old new u acted.es why

-- ---- ends of the run

-- It has set the end mark, as its nth instruction or by none, and has ended the run by this unless the run had ended before.
pub record EndsIn (r : Run) (old new : Goroutine) (n : ℕ) (why : TableTurnEnd) : Type 0 where
  pub mark : Mark
  pub ends : Bool
  pub ended : ActorHasEnded r old.actor new.actor n (mark_of mark) ends
  pub rest : new ≡ record old { actor = new.actor; first = if ends then Some mark else old.first }
  pub is : why ≡ (if ends then stop.Stopped mark else stop.Went)

-- ---- without an instruction

-- It has loaded the clock, and its record has all its local steps.
pub record HasCaughtUp (r : Run) (old new : Goroutine) (left : ℕ) : Type 0 where
  pub es : List Access
  pub moved : GoroutineMoved r old new 0 es
  pub rests : GoroutineRests r old new es
  pub goes : MayMakeInstructions r new left
  pub settled : new.actor.behind ≡ 0
  pub rest : new ≡ record old { actor = new.actor }
  pub body : new.actor.body ≡ old.actor.body
  pub is : record_now r new ≡ looked (record_now r old)
  pub first : SameFirst r old new
  pub some : accesses (record_now r old) < accesses (record_now r new)
