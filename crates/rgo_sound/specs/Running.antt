-- The three-address machine's part of a region run is never at an end: the end is a mark, and steps may follow it. So `plain_at` is
-- the only place where an end comes back into a plain state.
use Rattle.std.specs.Prelude.{◌≡◌, ℕ, None, Some}
use Rattle.rgo_code.specs.Code.{Code}
use Rattle.rgo_region_machine.specs.Machine.{Event, region_start, region_step}
use Rattle.rgo_region_machine.specs.States.{RegionState}

abbrev pub IsRunning : RegionState → Type 0
IsRunning s = s.plain.ended ≡ None

-- it holds at the start, and each step keeps it
pub record RunsOn : Type 0 where
  pub start : (code : Code) → IsRunning (region_start code)
  pub step : (code : Code) (page_words : ℕ) (s t : RegionState) (event : Event) → IsRunning s
      → region_step code page_words s event ≡ Some t → IsRunning t
