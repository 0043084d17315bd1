-- What a turn of a goroutine leaves, and why it was over. The reason is stated by what the accesses of the turn found, not by what is so
-- afterwards: other goroutines may have acted since.
use Rattle.std.specs.Prelude.{◌≡◌, ◌⊎◌, ◌+◌, ◌<◌, ◌≤◌, ◌^◌, ℕ, false, List, [], ◌++◌, Some}
use Rattle.rgo_core.specs.Memory.Words.{clock_at}
use Rattle.rgo_core.specs.Rule.Passes.{ChangesNothingBy}
use Rattle.rgo_core.specs.Rule.Views.{number_of}
use Rattle.rgo_core.specs.Rule.declared.accesses.Access.{Access}
use Rattle.rgo_core.specs.Rule.declared.accesses.Kind.TheVariants.{EndRun}
use Rattle.rgo_core.specs.Core.{Setup}
use Rattle.rgo_core.specs.runs.Opening.{first_of}
use Rattle.rgo_core.specs.Records.{Drawn, Record, accesses, steps_of}
use Rattle.rgo_core_steps.specs.Ends.{mark_of}
use Rattle.rgo_core_steps.specs.Grown.{Found, SeatGrew}
use Rattle.rgo_sound.specs.Machine.declared.limits.Shortage.{Shortage}
use Rattle.rgo_sound.specs.Machine.declared.limits.Shortage.TheVariants as shortage
use Rattle.rgo_acts.specs.Runs.{Run}
use Rattle.rgo_acts.specs.Shortages.{LacksPage, LacksSlot}
use Rattle.rgo_acts.specs.Waits.{Loses, WaitsAtChannel}
use Rattle.rgo_goroutine.specs.Goroutines.{HoldsMuch, ungathered_prints, numbers, record_of_goroutine}
pub use Rattle.rgo_goroutine.specs.Goroutines.{IsTidy}
use Rattle.rgo_goroutine.specs.declared.goroutine.Child.{Child}
use Rattle.rgo_goroutine.specs.declared.goroutine.Goroutine.{Goroutine}
use Rattle.rgo_goroutine.specs.declared.turning.TableTurnEnd.{TableTurnEnd}
use Rattle.rgo_goroutine.specs.declared.turning.TableTurnEnd.TheVariants as stop
use Rattle.rgo_goroutine.specs.declared.turning.Turned.{Turned}

-- Its seat has seen the accesses es more, its own among them, at least one. It has made n instructions; its prints, and the
-- goroutines that it has started, come to those that it had.
pub record GoroutineTurns (r : Run) (old new : Goroutine) (n : ℕ) (es : List Access) : Type 0 where
  pub grew : SeatGrew accesses (first_of r.setup.code) old.actor.seat.me es new.actor.seat.me
  -- by this access its seat has seen all accesses of its own; a driver in a pass needs that
  pub some : accesses (record_of_goroutine r.setup old) < accesses (record_of_goroutine r.setup new)
  pub steps : steps_of (record_of_goroutine r.setup new) ≡ steps_of (record_of_goroutine r.setup old) + n
  pub draws : List Drawn
  pub fresh : ungathered_prints new ≡ ungathered_prints old ++ draws
  pub printed : (record_of_goroutine r.setup new).clock.prints ≡ (record_of_goroutine r.setup old).clock.prints ++ draws
  pub starts : List Child
  pub newborn : new.children.items ≡ old.children.items ++ starts
  pub started : (record_of_goroutine r.setup new).clock.children ≡ numbers starts ++ (record_of_goroutine r.setup old).clock.children

-- its accesses changed no word, and its frames are as they were
pub record TurnChangesNothing (r : Run) (old new : Goroutine) (es : List Access) : Type 0 where
  pub words : ChangesNothingBy (number_of old.actor.seat.me) es
  pub frame : (record_of_goroutine r.setup new).frame ≡ (record_of_goroutine r.setup old).frame

-- its first function has returned, and it owes nothing
pub record HasFinished (c : Record) : Type 0 where
  pub frames : c.frame.frames ≡ []
  pub duties : c.frame.holder.duties ≡ []

-- the run had ended before it would have ended it
abbrev pub FoundEnd : ℕ → List Access → Type 0
FoundEnd g es = (n : ℕ) × (2 ^ 63 ≤ n) × Found g es EndRun clock_at n

abbrev pub SameFirst : Run → (old new : Goroutine) → Type 0
SameFirst r old new = (record_of_goroutine r.setup new).clock.first ≡ (record_of_goroutine r.setup old).clock.first

-- it lacks this
abbrev pub LacksFor : Shortage → Setup → ℕ → Record → List Access → Type 0
LacksFor shortage.Pages T g c es = LacksPage T g c es
LacksFor shortage.Regions T g c es = LacksSlot T g c es
LacksFor shortage.ObjectSize T g c es = ⊥

-- Why the turn was over. It has made n instructions, at most `slice`, and its list of changes has `changed` of its six
-- entries. es are the accesses that its seat has seen since.
abbrev pub TurnStops : (r : Run) (old new : Goroutine) (slice n changed : ℕ) (es : List Access) → TableTurnEnd → Type 0
TurnStops r old new slice n changed es stop.Went =
    SameFirst r old new × (((n ≡ slice) ⊎ (changed ≡ 6)) ⊎ (HoldsMuch new ⊎ FoundEnd (number_of old.actor.seat.me) es))
TurnStops r old new slice n changed es (stop.Blocked at operation) =
    SameFirst r old new × WaitsAtChannel r.setup (number_of old.actor.seat.me) (record_of_goroutine r.setup new) es at
TurnStops r old new slice n changed es (stop.Lost at) =
    SameFirst r old new × Loses r.setup (number_of old.actor.seat.me) (record_of_goroutine r.setup new) es at
TurnStops r old new slice n changed es stop.Ended = SameFirst r old new × HasFinished (record_of_goroutine r.setup new)
TurnStops r old new slice n changed es (stop.Stopped mark) = (record_of_goroutine r.setup new).clock.first ≡ Some (mark_of mark)
TurnStops r old new slice n changed es (stop.Short why) =
    SameFirst r old new × LacksFor why r.setup (number_of old.actor.seat.me) (record_of_goroutine r.setup new) es
TurnStops r old new slice n changed es stop.NoMemory = SameFirst r old new

-- what a turn leaves
pub record HasTurned (r : Run) (old new : Goroutine) (slice : ℕ) (turned : Turned) : Type 0 where
  pub es : List Access
  pub turns : GoroutineTurns r old new turned.steps es
  pub within : turned.steps ≤ slice
  pub still : turned.moved ≡ false → (turned.steps ≡ 0) × TurnChangesNothing r old new es
  pub stops : TurnStops r old new slice turned.steps turned.changed.count es turned.stop
