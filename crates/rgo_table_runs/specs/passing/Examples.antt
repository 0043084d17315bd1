-- What a driver knows of goroutines in a pass, and what it cannot know.
use Rattle.std.specs.Prelude.{◌≡◌, ℕ, List, [], ◌∷◌, Option, Some, None}
use Rattle.rgo_core.specs.Core.{Setup}
use Rattle.rgo_core.specs.Records.{Record, begins_with, looked}
use Rattle.rgo_core.specs.Channels.Records.{Free}
use Rattle.rgo_core.specs.Frames.goroutines.Opening.{no_record}
use Rattle.rgo_core.specs.Rule.Histories.{access}
use Rattle.rgo_core.specs.Rule.Views.{view}
use Rattle.rgo_core.specs.Rule.declared.accesses.Access.{Access}
use Rattle.rgo_core.specs.Rule.declared.accesses.Kind.TheVariants.{Load}
use Rattle.rgo_sound.specs.Machine.declared.limits.Shortage.{Shortage}
use Rattle.rgo_sound.specs.Machine.declared.limits.Shortage.TheVariants.{ObjectSize, Pages, Regions}
use Rattle.rgo_goroutine.specs.Acts.Waits.{WaitsAtChannel}
use Rattle.rgo_goroutine.specs.declared.turning.TableTurnEnd.TheVariants as stop
use Rattle.rgo_table_runs.specs.passing.Laws.{Tells}
use Rattle.rgo_table_runs.specs.passing.Passes.{AllPassed}
use Rattle.rgo_table_runs.specs.passing.Turns.{HadTurn, HasPassed, AccessesAreKnown, StandsStill}

-- a goroutine that has returned
abbrev pub returned_record : Record
returned_record = begins_with no_record

-- goroutine 1 has looked at the clock
abbrev pub look_at_clock : Access
look_at_clock = access 1 Load 0 5 5

pub record TablePassExamples : Type 0 where
  pub known : AccessesAreKnown (look_at_clock ∷ []) 1 1
  pub unknown : AccessesAreKnown [] 1 1 → ⊥
  -- its turn was a look
  pub had_turn : HadTurn [] (look_at_clock ∷ []) 1 (looked returned_record)
  -- it has changed a word
  pub changed : (k : HadTurn [] (access 1 Load 0 5 6 ∷ []) 1 (looked returned_record)) → k.turn ≡ access 1 Load 0 5 6 ∷ [] → ⊥
  -- the history does not continue the one before
  pub before : (g : ℕ) (c : Record) → HadTurn (look_at_clock ∷ []) [] g c → ⊥
  pub waits : (T : Setup) (g : ℕ) (c : Record) (es : List Access) (place : Option ℕ) → WaitsAtChannel T g c es place → StandsStill T g c es None
  -- the size of an object is not a reason not to move
  pub too_large : (T : Setup) (g : ℕ) (c : Record) (es : List Access) → StandsStill T g c es (Some ObjectSize) → ⊥
  pub over : (T : Setup) → HasPassed T [] [] 0 returned_record None
  -- it has locked a channel
  pub locked : (T : Setup) (before history : List Access) (g : ℕ) (c : Record) (lack : Option Shortage) → (c.side.hold ≡ Free → ⊥)
      → HasPassed T before history g c lack → ⊥
  pub all : (T : Setup) → AllPassed T (view ((0, returned_record) ∷ []) []) ((0, returned_record) ∷ []) [] (λ g. None)
  -- the driver has not seen what was before the pass
  pub unseen : (T : Setup) (lack : ℕ → Option Shortage) → AllPassed T (view ((0, returned_record) ∷ []) []) ((0, returned_record) ∷ []) (look_at_clock ∷ []) lack → ⊥
  pub short : Tells (stop.Short Pages) (Some Pages)
  pub other : Tells (stop.Short Pages) (Some Regions) → ⊥
  pub went : (lack : Option Shortage) → Tells stop.Went lack → ⊥
