-- A run that has room for each of its steps stays within it. It holds for any code: only the two tests on room are used.
use Rattle.std.specs.Prelude.{◌≡◌, ◌++◌, List, Some}
use Rattle.rgo_machine.specs.declared.limits.Sizes.{Sizes}
use Rattle.rgo_code.specs.Code.{Code}
use Rattle.rgo_region_machine.specs.Machine.{Event, region_run}
use Rattle.rgo_region_machine.specs.Room.{StateFitsIn, roomy_run}
use Rattle.rgo_region_machine.specs.States.{RegionState}

pub record RoomIsKept : Type 0 where
  -- it is a run of the region machine
  pub is_run : (code : Code) (sizes : Sizes) (events : List Event) (t : RegionState) → roomy_run code sizes events ≡ Some t
      → region_run code sizes.page_words events ≡ Some t
  -- in each state that it went through, no more pages are in use, and no more regions are live, than the sizes allow
  pub fits : (code : Code) (sizes : Sizes) (before after : List Event) (s t : RegionState)
      → roomy_run code sizes (before ++ after) ≡ Some t → region_run code sizes.page_words before ≡ Some s
      → StateFitsIn sizes s
