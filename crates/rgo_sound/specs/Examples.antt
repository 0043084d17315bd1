-- Examples for Leaving, Owners and Running: who takes part in an event, what it leaves, and states in which the laws would fail.
use Rattle.std.specs.Prelude.{ℕ, [], ◌∷◌, Some}
use Rattle.rgo_code.specs.Code.{Code}
use Rattle.rgo_machine.specs.declared.picks.End.TheVariants.{Exit}
use Rattle.rgo_machine.specs.declared.picks.Pick.TheVariants.{Meet, One}
use Rattle.rgo_region_machine.specs.Machine.{Attend, Finish, Instruct, TakePage, region_start}
use Rattle.rgo_region_machine.specs.States.{RegionState}
use Rattle.rgo_region_machine.specs.declared.limits.Limit.TheVariants as limit
use Rattle.rgo_region_machine.specs.declared.regions.Region.TheVariants.{Numbered}
use Rattle.rgo_sound.specs.Leaving.{ActsAlone, LeavesOthers, TakesPart}
use Rattle.rgo_sound.specs.Owners.{OwnersMade}
use Rattle.rgo_sound.specs.Running.{IsRunning}

-- the first state, each time with one thing wrong: no holder for its goroutine, an owner that was never created, a plain part at its end
abbrev pub without_holder : Code → RegionState
without_holder code = record (region_start code) { holders = [] }

abbrev pub with_owner : Code → RegionState
with_owner code = record (region_start code) { owners = Numbered 0 ∷ [] }

abbrev pub at_end : Code → RegionState
at_end code = record (region_start code) { plain = record (region_start code).plain { ended = Some Exit } }

pub record StepExamples (code : Code) : Type 0 where
  pub meets : TakesPart (Instruct (Meet 0 1)) 1
  pub apart : TakesPart (Instruct (One 3)) 2 → ⊥
  pub nobody : (j : ℕ) → TakesPart (Finish limit.Memory) j → ⊥
  pub alone : ActsAlone (TakePage 2) 2
  pub together : ActsAlone (Instruct (Meet 0 1)) 0 → ⊥
  -- the goroutine that takes part may change, and no other one
  pub changes : LeavesOthers (region_start code) (without_holder code) (Attend 0)
  pub loses : LeavesOthers (region_start code) (without_holder code) (Attend 5) → ⊥
  pub made : OwnersMade (region_start code)
  pub unmade : OwnersMade (with_owner code) → ⊥
  pub running : IsRunning (region_start code)
  pub ended : IsRunning (at_end code) → ⊥
