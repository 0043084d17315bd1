-- What follows from a pass, and how a driver comes to know what it knows of each goroutine.
use Rattle.std.specs.Prelude.{◌≡◌, ℕ, List, ◌++◌, Bool, Option, Some, None}
use Rattle.rgo_sound.specs.Code.Erasure.{erased}
use Rattle.rgo_core.specs.Core.{Setup}
use Rattle.rgo_core.specs.Records.{Record, accesses}
use Rattle.rgo_core.specs.Rule.Passes.{ChangesNothingBy}
use Rattle.rgo_core.specs.Rule.Views.{HasRow, Rows, number_of}
use Rattle.rgo_core.specs.Rule.declared.accesses.Access.{Access}
use Rattle.rgo_core.specs.Rule.declared.accesses.View.{View}
use Rattle.rgo_core_steps.specs.Outcomes.{ClosesTable}
use Rattle.rgo_sound.specs.Machine.Deadlocks.{IsDeadlock}
use Rattle.rgo_sound.specs.Machine.declared.limits.Shortage.{Shortage}
use Rattle.rgo_sound.specs.RegionMachine.Room.{LacksIn}
use Rattle.rgo_sound.specs.Tac.Tac.{tac}
use Rattle.rgo_goroutine.specs.Acts.Runs.{Run}
use Rattle.rgo_goroutine.specs.Goroutines.{record_of_goroutine}
use Rattle.rgo_goroutine.specs.Passing.{LoadsClock}
use Rattle.rgo_goroutine.specs.Turns.{HasTurned, IsTidy}
use Rattle.rgo_goroutine.specs.declared.goroutine.Goroutine.{Goroutine}
use Rattle.rgo_goroutine.specs.declared.turning.TableTurnEnd.{TableTurnEnd}
use Rattle.rgo_goroutine.specs.declared.turning.TableTurnEnd.TheVariants as stop
use Rattle.rgo_goroutine.specs.declared.turning.Turned.{Turned}
use Rattle.rgo_table_runs.specs.closing.Laws.{last_state}
use Rattle.rgo_table_runs.specs.passing.Passes.{AllPassed}
use Rattle.rgo_table_runs.specs.passing.Turns.{HasPassed, AccessesAreKnown}

-- ---- at the close

-- If no goroutine could continue, and none lacked anything, the run is in a deadlock.
abbrev pub FindsDeadlock : Type 0
FindsDeadlock = (T : Setup) (words : List ℕ) (v : View Record) (e : ClosesTable T words v) (rows : Rows Record) (before : List Access)
    (lack : ℕ → Option Shortage) → AllPassed T v rows before lack → ((g : ℕ) (c : Record) → HasRow rows g c → lack g ≡ None)
    → IsDeadlock (tac (erased T.code)) (last_state e).plain

-- If one lacked a page or a slot, there was none: at one moment as many were in use as there are.
abbrev pub FindsShortage : Type 0
FindsShortage = (T : Setup) (words : List ℕ) (v : View Record) (e : ClosesTable T words v) (rows : Rows Record) (before : List Access)
    (lack : ℕ → Option Shortage) → AllPassed T v rows before lack
    → (g : ℕ) (c : Record) (why : Shortage) → HasRow rows g c → lack g ≡ Some why → LacksIn T.code T.sizes why (last_state e)

-- ---- in the pass

-- All accesses of a goroutine are known when it has looked, and stay so.
pub record KnowsByLook : Type 0 where
  pub looks : (r : Run) (old new : Goroutine) (ended : Bool) → LoadsClock r old new ended
      → AccessesAreKnown new.actor.seat.me.0.seen (number_of old.actor.seat.me) (accesses (record_of_goroutine r.setup new))
  pub stays : (before more : List Access) (g n : ℕ) → AccessesAreKnown before g n → AccessesAreKnown (before ++ more) g n

-- why the turn was over says what the goroutine lacks
abbrev pub Tells : TableTurnEnd → Option Shortage → Type 0
Tells (stop.Blocked at operation) lack = lack ≡ None
Tells (stop.Lost at) lack = lack ≡ None
Tells (stop.Short why) lack = lack ≡ Some why
Tells stop.Went lack = ⊥
Tells stop.Ended lack = ⊥
Tells (stop.Stopped mark) lack = ⊥
Tells stop.NoMemory lack = ⊥

-- A goroutine that had met its driver, which had seen what began the pass and more, has passed by a turn that changed no word.
abbrev pub PassesByTurn : Type 0
PassesByTurn = (r : Run) (old new : Goroutine) (slice : ℕ) (turned : Turned) (before front : List Access) (lack : Option Shortage)
    → old.actor.seat.me.0.seen ≡ before ++ front
    → AccessesAreKnown before (number_of old.actor.seat.me) (accesses (record_of_goroutine r.setup old))
    → (h : HasTurned r old new slice turned) → ChangesNothingBy (number_of old.actor.seat.me) h.es → IsTidy (record_of_goroutine r.setup new)
    → Tells turned.stop lack
    → HasPassed r.setup before new.actor.seat.me.0.seen (number_of old.actor.seat.me) (record_of_goroutine r.setup new) lack

-- It stays so while others have their turns.
abbrev pub StaysPassed : Type 0
StaysPassed = (T : Setup) (before history more : List Access) (g : ℕ) (c : Record) (lack : Option Shortage)
    → HasPassed T before history g c lack → HasPassed T before (history ++ more) g c lack
