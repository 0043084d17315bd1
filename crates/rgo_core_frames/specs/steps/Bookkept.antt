-- A step of the region machine after which records fit, and what it leaves as it was. What it leaves is stated with the step, because
-- the images of memory and channels have to be shown for the same state afterwards.
use Rattle.rgo_sound.specs.Code.Code.{Code}
use Rattle.rgo_sound.specs.Machine.declared.picks.Pick.TheVariants.{One}
use Rattle.rgo_sound.specs.Memory.Memory.{Memory}
use Rattle.rgo_sound.specs.RegionMachine.Instructions.{printed_if}
use Rattle.rgo_sound.specs.RegionMachine.Machine.{Acknowledge, Attend, Event, Finish, Instruct, MakeOffer, TakePage, region_step}
use Rattle.rgo_sound.specs.RegionMachine.Regions.{RegionInfo}
use Rattle.rgo_sound.specs.RegionMachine.States.{Holder, Mark, RegionState}
use Rattle.rgo_sound.specs.RegionMachine.declared.regions.Region.{Region}
use Rattle.rgo_sound.specs.Leaving.{ActsAlone, LeavesOthers}
use Rattle.std.specs.Prelude.{List, Option, Some, slice_get, ℕ, ◌++◌, ◌≡◌, ◌+◌}
use Rattle.rgo_core_frames.specs.Fits.{RecordsFit}
use Rattle.rgo_core_frames.specs.Records.{FramesRec}
use Rattle.rgo_core_frames.specs.States.{AtInstruction, Here}

-- from s to t, by this event: goroutines that take no part in it stay, and so does the offer of the one that acts alone
pub record LeavesRest (s t : RegionState) (event : Event) : Type 0 where
  pub others : LeavesOthers s t event
  pub offers : (g : ℕ) (h : Holder) → ActsAlone event g → slice_get s.holders g ≡ Some h
      → (k : Holder) × (slice_get t.holders g ≡ Some k) × (k.offer ≡ h.offer)

-- how many instructions were done, a meeting being one
abbrev pub steps_after : ℕ → Event → ℕ
steps_after n (Instruct pick) = n + 1
steps_after n (Attend g) = n
steps_after n (TakePage g) = n
steps_after n (MakeOffer g) = n
steps_after n (Acknowledge g) = n
steps_after n (Finish limit) = n

-- memory, print, owners and Global's pages stay
pub record StaysElse (s t : RegionState) : Type 0 where
  pub memory : t.plain.memory ≡ s.plain.memory
  pub printed : t.plain.printed ≡ s.plain.printed
  pub owners : t.owners ≡ s.owners
  pub global_pages : t.global_pages ≡ s.global_pages

-- The region machine has this step, and these records fit after it. The regions and the mark are then these. Otherwise only goroutines
-- have changed.
pub record HasStep
    (code : Code) (page_words : ℕ) (slot_of : ℕ → ℕ) (addresses : List ℕ) (s : RegionState) (event : Event)
    (regions : List RegionInfo) (mark : Option Mark) (records : List FramesRec) : Type 0 where
  pub state : RegionState
  pub steps : region_step code page_words s event ≡ Some state
  pub fit : RecordsFit code slot_of addresses state records
  pub same : StaysElse s state
  pub rest : LeavesRest s state event
  pub regions_are : state.regions ≡ regions
  pub mark_is : state.mark ≡ mark
  pub counted : state.steps ≡ steps_after s.steps event

-- the same from here
abbrev pub RegionStepsTo : Here → Event → List RegionInfo → Option Mark → List FramesRec → Type 0
RegionStepsTo x event regions mark records = HasStep x.code x.page_words x.slot_of x.addresses x.s event regions mark records

-- The region machine has this instruction of goroutine g, and these records fit after it. The memory, the print and the
-- owners are then these, and the goroutine's own pages and reserved pages are those of `given`. Otherwise only goroutines have changed.
pub record HasInstruction
    (code : Code) (page_words : ℕ) (slot_of : ℕ → ℕ) (addresses : List ℕ) (s : RegionState) (g : ℕ) (memory : Memory)
    (bytes : List ℕ) (given : Holder × List Region) (records : List FramesRec) : Type 0 where
  pub state : RegionState
  pub steps : region_step code page_words s (Instruct (One g)) ≡ Some state
  pub fit : RecordsFit code slot_of addresses state records
  pub rest : LeavesRest s state (Instruct (One g))
  pub memory_is : state.plain.memory ≡ memory
  pub printed : state.plain.printed ≡ printed_if s.mark s.plain.printed (s.plain.printed ++ bytes)
  pub owners : state.owners ≡ s.owners ++ given.1
  pub regions : state.regions ≡ s.regions
  pub global_pages : state.global_pages ≡ s.global_pages
  pub mark : state.mark ≡ s.mark
  pub counted : state.steps ≡ s.steps + 1
  pub fills : (h : Holder) → slice_get state.holders g ≡ Some h → h.fills ≡ given.0.fills
  pub reserved : (h : Holder) → slice_get state.holders g ≡ Some h → h.reserved ≡ given.0.reserved

-- the same of the instruction that comes next; `addresses` are those of the objects after it
abbrev pub PerformsInstr : AtInstruction → (addresses : List ℕ) → Memory → (bytes : List ℕ) → Holder × List Region
    → List FramesRec → Type 0
PerformsInstr x addresses memory bytes given records =
    HasInstruction x.here.code x.here.page_words x.here.slot_of addresses x.here.s x.here.g memory bytes given records
