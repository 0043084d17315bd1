-- States of runs of checked code, as the laws need them; and one record among those that represent such a state. They are states and
-- no runs, since two laws about one step have to be about the same state.
use Rattle.rgo_sound.specs.Code.Checked.{IsChecked}
use Rattle.rgo_sound.specs.Code.Code.{Code, CodeInstr}
use Rattle.rgo_sound.specs.Code.NameRules.{Ascends}
use Rattle.rgo_sound.specs.RegionMachine.Machine.{Event, region_start, region_step}
use Rattle.rgo_sound.specs.RegionMachine.States.{RegionState}
use Rattle.rgo_sound.specs.Good.{AllGood}
use Rattle.rgo_sound.specs.Owners.{OwnersMade}
use Rattle.rgo_sound.specs.Running.{IsRunning}
use Rattle.std.specs.Prelude.{List, Some, slice_get, ℕ, ◌≡◌}
use Rattle.rgo_core_frames.specs.steps.Before.{IsBefore}
use Rattle.rgo_core_frames.specs.Fits.{RecordsFit}
use Rattle.rgo_core_frames.specs.Records.{FramesRec}
use Rattle.rgo_core_frames.specs.shown.WordFrames.{WordFrame}

-- what holds of each state of a run of checked code
pub record IsSound (code : Code) (s : RegionState) : Type 0 where
  pub checked : IsChecked code
  pub written : Ascends code
  pub good : AllGood code s
  pub running : IsRunning s
  pub made : OwnersMade s

-- it is so at the start, and each step keeps it
pub record SoundStays : Type 0 where
  pub start : (code : Code) → IsChecked code → Ascends code → IsSound code (region_start code)
  pub step : (code : Code) (page_words : ℕ) (s t : RegionState) (event : Event) → IsSound code s
      → region_step code page_words s event ≡ Some t → IsSound code t

-- What the laws have in common: c is the record of goroutine g, one of the records that represent the goroutines of a state.
-- `slot_of` has the slot of each region, and `addresses` the address of each object. Both come from the image of memory.
pub record Here : Type 0 where
  pub code : Code
  pub page_words : ℕ
  pub slot_of : ℕ → ℕ
  pub addresses : List ℕ
  pub s : RegionState
  pub records : List FramesRec
  pub g : ℕ
  pub c : FramesRec
  pub sound : IsSound code s
  pub all : RecordsFit code slot_of addresses s records
  pub is_c : slice_get records g ≡ Some c

-- and it is before an instruction, owes nothing, and has nothing to acknowledge: w is its newest frame, ws are the callers'
pub record AtInstruction : Type 0 where
  pub here : Here
  pub w : WordFrame
  pub ws : List WordFrame
  pub instr : CodeInstr
  pub before : IsBefore here.code here.slot_of here.addresses here.s here.g here.c w ws instr
