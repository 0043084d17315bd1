-- The owner of an object is a region that was created, so a region that is created later has no objects yet.
use Rattle.std.specs.Prelude.{◌≡◌, ◌<◌, ℕ, length, Some, slice_get}
use Rattle.rgo_code.specs.Code.{Code}
use Rattle.rgo_region_machine.specs.Machine.{Event, region_start, region_step}
use Rattle.rgo_region_machine.specs.States.{RegionState}
use Rattle.rgo_region_machine.specs.declared.regions.Region.TheVariants.{Numbered}
use Rattle.rgo_sound.specs.Good.{AllGood}

abbrev pub OwnersMade : RegionState → Type 0
OwnersMade s = (o r : ℕ) → slice_get s.owners o ≡ Some (Numbered r) → r < length s.regions

-- It holds at the start, and each step keeps it. A step needs the invariant: the region of a new object is one that a name denotes.
pub record OwnersStayMade : Type 0 where
  pub start : (code : Code) → OwnersMade (region_start code)
  pub step : (code : Code) (page_words : ℕ) (s t : RegionState) (event : Event) → AllGood code s → OwnersMade s
      → region_step code page_words s event ≡ Some t → OwnersMade t
