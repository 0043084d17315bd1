-- Goroutines with what a worker needs to give them their turns. A turn has the run by itself, so that a worker needs nothing else.
use Rattle.std.specs.Prelude.{◌≡◌, ◌+◌, ◌<◌, ℕ, Bool, Option, None, Some}
use Rattle.rgo_core.specs.Records.{steps_of}
use Rattle.rgo_table_runs.specs.Goroutine.Acts.Runs.{Run}
use Rattle.rgo_table_runs.specs.Goroutine.Goroutines.{IsOf, IsTidy, record_of_goroutine}
use Rattle.rgo_table_runs.specs.Goroutine.Instructions.{TableHasPages}
use Rattle.rgo_table_runs.specs.Goroutine.Turns.{HasTurned}
use Rattle.rgo_table_runs.specs.Goroutine.declared.goroutine.Goroutine.{Goroutine}
use Rattle.rgo_table_runs.specs.Goroutine.declared.turning.Turned.{Turned}

pub record Turn : Type 0 where
  pub run : Run
  pub goroutine : Goroutine
  -- how many instructions its next turn may execute
  pub slice : ℕ
  -- what its last turn has done
  pub turned : Option Turned

-- The first turn of a goroutine. It may execute nothing until it is given a time slice, so a turn that was forgotten does nothing.
abbrev pub first_turn : Run → Goroutine → Turn
first_turn r go = record { run = r; goroutine = go; slice = 0; turned = None }

-- The goroutine is of the run and at rest, and may have its turn. The bound is 2^43: with fewer instructions, the tickets of the prints of
-- a million goroutines fit in a word.
pub record CanTurn (t : Turn) : Type 0 where
  pub of : IsOf t.run t.goroutine
  pub tidy : IsTidy (record_of_goroutine t.run.setup t.goroutine)
  pub pages : TableHasPages t.run
  pub few : steps_of (record_of_goroutine t.run.setup t.goroutine) + t.slice < 8796093022208

-- It has had its turn, and says whether anything may have moved. `slice` is 0 afterwards, so that it has no other turn before it is given
-- instructions again.
pub record TurnIsTaken (before after : Turn) (went : Bool) : Type 0 where
  pub turned : Turned
  pub rest : after ≡ record before { goroutine = after.goroutine; slice = 0; turned = Some turned }
  pub has : HasTurned before.run before.goroutine after.goroutine before.slice turned
  pub number : after.goroutine.number ≡ before.goroutine.number
  pub says : went ≡ turned.moved

pub record TurningExamples : Type 0 where
  pub has_turned : (before : Turn) (go : Goroutine) (turned : Turned) → HasTurned before.run before.goroutine go before.slice turned
      → go.number ≡ before.goroutine.number → TurnIsTaken before (record before { goroutine = go; slice = 0; turned = Some turned }) turned.moved
  -- it does not say what it has done
  pub silent : (before after : Turn) (went : Bool) → after.turned ≡ None → TurnIsTaken before after went → ⊥
  -- it has another number
  pub renumbered : (before after : Turn) (went : Bool) → before.goroutine.number ≡ 1 → after.goroutine.number ≡ 2 → TurnIsTaken before after went → ⊥
  -- it may continue with the instructions that it was given
  pub goes_on : (before after : Turn) (went : Bool) → after.slice ≡ 1 → TurnIsTaken before after went → ⊥
  -- its prints could not be numbered
  pub too_many : (t : Turn) → t.slice ≡ 8796093022208 → CanTurn t → ⊥
