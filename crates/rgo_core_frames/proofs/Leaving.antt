-- What a step leaves as it was, from the laws of region safety. So it is proved once, and not for each kind of step.
use Rattle.std.proofs.Common.{◌≡◌, ℕ, List, Option, Some, None, refl}
use Rattle.rgo_sound.specs.Code.Code.{Code}
use Rattle.rgo_sound.specs.RegionMachine.Instructions.{mark_with_end, printed_if}
use Rattle.rgo_sound.specs.RegionMachine.Machine.{Event, region_step}
use Rattle.rgo_sound.specs.RegionMachine.Regions.{RegionInfo}
use Rattle.rgo_sound.specs.RegionMachine.States.{Holder, Mark, RegionState}
use Rattle.rgo_sound.proofs.steps.Leaving.{offers_stay, others_stay}
use Rattle.rgo_core_frames.specs.Fits.{RecordsFit}
use Rattle.rgo_core_frames.specs.Records.{FramesRec}
use Rattle.rgo_core_frames.specs.steps.Bookkept.{HasStep, LeavesRest, StaysElse, steps_after}

pub leaves_rest : (code : Code) (page_words : ℕ) (s t : RegionState) (event : Event)
    → region_step code page_words s event ≡ Some t → LeavesRest s t event
leaves_rest code page_words s t event e = record {
  others = others_stay code page_words s t event e;
  offers = λ g h alone there. offers_stay code page_words s t event g h e alone there;
}

pub has_step : (code : Code) (page_words : ℕ) (slot_of : ℕ → ℕ) (addresses : List ℕ) (s : RegionState) (event : Event)
    (regions : List RegionInfo) (mark : Option Mark) (records : List FramesRec) (t : RegionState)
    → region_step code page_words s event ≡ Some t → RecordsFit code slot_of addresses t records → StaysElse s t
    → t.regions ≡ regions → t.mark ≡ mark → t.steps ≡ steps_after s.steps event
    → HasStep code page_words slot_of addresses s event regions mark records
has_step code page_words slot_of addresses s event regions mark records t e fit same regions_are mark_is counted = record {
  state = t;
  steps = e;
  fit = fit;
  same = same;
  rest = leaves_rest code page_words s t event e;
  regions_are = regions_are;
  mark_is = mark_is;
  counted = counted;
}

-- a step that leaves memory, print, owners, regions and mark by definition
pub has_still_step : (code : Code) (page_words : ℕ) (slot_of : ℕ → ℕ) (addresses : List ℕ) (s : RegionState)
    (event : Event) (records : List FramesRec) (holders : List Holder)
    → region_step code page_words s event ≡ Some (record s { holders = holders })
    → RecordsFit code slot_of addresses (record s { holders = holders }) records → s.steps ≡ steps_after s.steps event
    → HasStep code page_words slot_of addresses s event s.regions s.mark records
has_still_step code page_words slot_of addresses s event records holders e fit counted =
    has_step code page_words slot_of addresses s event s.regions s.mark records (record s { holders = holders }) e fit
    (record { memory = refl; printed = refl; owners = refl; global_pages = refl }) refl refl counted

-- ---- marks and prints

pub mark_stays : (m : Option Mark) → mark_with_end m None ≡ m
mark_stays None = refl
mark_stays (Some e) = refl

pub print_stays : (m : Option Mark) (bytes : List ℕ) → printed_if m bytes bytes ≡ bytes
print_stays None bytes = refl
print_stays (Some e) bytes = refl
