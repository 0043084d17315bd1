-- The run that explains a table, up to its end and beyond: what the claim on the whole program takes from it.
use Rattle.std.specs.Prelude.{◌≡◌, ◌≤◌, ℕ, List, ◌++◌, length, Option, Some}
use Rattle.rgo_sound.specs.Code.Code.{Code}
use Rattle.rgo_sound.specs.Code.Erasure.{erased}
use Rattle.rgo_sound.specs.Machine.Ends.{RunEndsAs, RunPrints}
use Rattle.rgo_sound.specs.Machine.declared.ends.RunEnd.{RunEnd}
use Rattle.rgo_sound.specs.Machine.declared.ends.RunEnd.TheVariants.{NoMemory, NoRoom}
use Rattle.rgo_sound.specs.Machine.Limits.{LeadsWithin}
use Rattle.rgo_sound.specs.Machine.declared.limits.Limits.{Limits}
use Rattle.rgo_sound.specs.Machine.declared.limits.Sizes.{Sizes}
use Rattle.rgo_sound.specs.Machine.declared.limits.Shortage.{Shortage}
use Rattle.rgo_sound.specs.RegionMachine.Counts.{Counts, counts_of}
use Rattle.rgo_sound.specs.RegionMachine.Machine.{Event, region_run}
use Rattle.rgo_sound.specs.RegionMachine.Room.{LacksIn, roomy_run}
use Rattle.rgo_sound.specs.RegionMachine.States.{RegionState, plain_at}
use Rattle.rgo_sound.specs.Erasure.{picks_of}
use Rattle.rgo_sound.specs.Tac.Tac.{TacState, tac, tac_start}

-- A run with regions. Without them it is a run within the limits, which ends so, for its cause; its print was given out.
pub record TableRun (code : Code) (sizes : Sizes) (limits : Limits) (end : RunEnd) (tally : Counts) (old new : Option (List ℕ)) : Type 0 where
  -- up to the end, and what followed
  pub events : List Event
  pub late : List Event
  pub state : RegionState
  pub last : RegionState
  pub run : region_run code sizes.page_words events ≡ Some state
  pub more : region_run code sizes.page_words (events ++ late) ≡ Some last
  -- each of its steps, also of those that followed the end, had room
  pub room : roomy_run code sizes (events ++ late) ≡ Some last
  -- what followed counts, too
  pub made : counts_of last ≡ tally
  -- and it prints nothing, unless memory ran out before all was given out
  pub silent : (end ≡ NoMemory → ⊥) → last.plain.printed ≡ state.plain.printed
  -- the same run without regions
  pub plain : TacState
  pub ran : LeadsWithin (tac (erased code)) limits (tac_start (erased code)) (picks_of code sizes events) plain
  pub is : plain_at state plain.printed ≡ plain
  pub printed : state.plain.printed ≡ plain.printed
  -- the steps that were made when the limit of steps was last tested
  pub tested : ℕ
  pub early : tested ≤ length (picks_of code sizes events)
  pub ends : RunEndsAs (tac (erased code)) limits tested (length (picks_of code sizes events)) plain end
  pub gives : RunPrints end plain.printed old new
  pub lacks : (why : Shortage) → end ≡ NoRoom why → LacksIn code sizes why state
