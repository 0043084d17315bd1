-- How much room a state uses, and the steps for which there is room: a page is taken only if fewer are in use than the sizes
-- allow, and a region is created only if fewer are live. The machine itself has no such limits, so that its laws hold for every
-- size; a run with room is one of its runs (`room_is_kept` of rgo_sound).
use Rattle.std.specs.Prelude.{◌≡◌, ◌≤◌, ◌<◌, ◌+◌, ◌-◌, ◌*◌, ℕ, zero, suc, Bool, true, List, [], ◌∷◌, Option, Some, None}
use Rattle.std.specs.Prelude.{IsSome, length, max, slice_get, sum_by, nat_lt, if◌then◌else◌}
use Rattle.rgo_machine.specs.declared.limits.Sizes.{Sizes}
use Rattle.rgo_machine.specs.declared.picks.Pick.TheVariants.{One}
use Rattle.rgo_machine.specs.declared.limits.Shortage.{Shortage}
use Rattle.rgo_machine.specs.declared.limits.Shortage.TheVariants as shortage
use Rattle.rgo_machine.specs.Runs.{run}
use Rattle.rgo_memory.specs.Memory.{Object}
use Rattle.rgo_tac.specs.Tac.{TacState}
use Rattle.rgo_code.specs.Code.{Code}
use Rattle.rgo_region_machine.specs.Counts.{counts_of}
use Rattle.rgo_region_machine.specs.Machine.{Event, Instruct, Attend, TakePage, MakeOffer, Acknowledge, Finish}
use Rattle.rgo_region_machine.specs.Machine.{next_object, plain_step, region_start, region_step}
use Rattle.rgo_region_machine.specs.Objects.{data_pages, most_data_pages, new_object}
use Rattle.rgo_region_machine.specs.States.{Duty, Create, Share, Protect, Unprotect, Remove, EndBase, Holder, RegionState}

-- the pages of live regions and of Global: those of a removed region can be taken again
abbrev pub pages_in_use : RegionState → ℕ
pages_in_use s = (counts_of s).taken - (counts_of s).returned

-- how many regions are live, but for Global
abbrev pub live_regions : RegionState → ℕ
live_regions s = (counts_of s).made - (counts_of s).removed

-- no more pages are in use, and no more regions are live, than the sizes allow
pub record StateFitsIn (sizes : Sizes) (s : RegionState) : Type 0 where
  pub pages : pages_in_use s ≤ sizes.pages
  pub regions : live_regions s ≤ sizes.regions

-- ---- steps

-- only a creation can lack room; all other duties use what is there, or return it
abbrev pub has_room_for : Sizes → RegionState → Duty → Bool
has_room_for sizes s (Create k) = nat_lt (live_regions s) sizes.regions
has_room_for sizes s (Share k) = true
has_room_for sizes s (Protect k) = true
has_room_for sizes s (Unprotect k) = true
has_room_for sizes s (Remove k) = true
has_room_for sizes s (EndBase r) = true

abbrev pub has_room_for_first : Sizes → RegionState → List Duty → Bool
has_room_for_first sizes s [] = true
has_room_for_first sizes s (duty ∷ duties) = has_room_for sizes s duty

abbrev pub has_room_to_attend : Sizes → RegionState → Option Holder → Bool
has_room_to_attend sizes s None = true
has_room_to_attend sizes s (Some h) = has_room_for_first sizes s h.duties

abbrev pub has_room : Sizes → RegionState → Event → Bool
has_room sizes s (Attend g) = has_room_to_attend sizes s (slice_get s.holders g)
has_room sizes s (TakePage g) = nat_lt (pages_in_use s) sizes.pages
has_room sizes s (Instruct pick) = true
has_room sizes s (MakeOffer g) = true
has_room sizes s (Acknowledge g) = true
has_room sizes s (Finish limit) = true

-- the step, if there is room for it
abbrev pub roomy_step : Code → Sizes → RegionState → Event → Option RegionState
roomy_step code sizes s event =
    if has_room sizes s event then region_step code sizes.page_words s event else None

-- the state after these events, if each has a step with room in its turn
abbrev pub roomy_run : Code → Sizes → List Event → Option RegionState
roomy_run code sizes events = run (roomy_step code sizes) (region_start code) events

-- ---- where there is none

-- the step makes an object of more data pages than an object can have, so the region machine never has that step
abbrev pub MakesTooLarge : ℕ → TacState → TacState → Type 0
MakesTooLarge page_words old next =
    (object : Object) × (new_object old next ≡ Some object)
    × (most_data_pages page_words < data_pages page_words object)

-- Why a run may stop for lack of room: some goroutine is to take a page, and as many are in use as the sizes allow; is to create a
-- region, and as many are live; or is to make an object that is too large. Each clause names the goroutine whose next step needs
-- the room: that a limit is reached alone is no reason to stop.
abbrev pub LacksIn : Code → Sizes → Shortage → RegionState → Type 0
LacksIn code sizes shortage.Pages s =
    (g : ℕ) × IsSome (region_step code sizes.page_words s (TakePage g)) × (sizes.pages ≤ pages_in_use s)
LacksIn code sizes shortage.Regions s =
    (g k : ℕ) × (h : Holder) × (duties : List Duty) × (slice_get s.holders g ≡ Some h) × (h.duties ≡ Create k ∷ duties)
    × (sizes.regions ≤ live_regions s)
LacksIn code sizes shortage.ObjectSize s =
    (g : ℕ) × (next : TacState) × (plain_step code s.plain (One g) ≡ Some next)
    × MakesTooLarge sizes.page_words s.plain next

-- ---- how many pages are enough

-- the pages that are taken for one object: its lead and data pages, or at most one of a goroutine's own
abbrev pub pages_of : (page_words : ℕ) → Object → ℕ
pages_of page_words object = data_pages page_words object + 1

-- those of the objects that were made
abbrev pub object_pages : (page_words : ℕ) → RegionState → ℕ
object_pages page_words s = sum_by (pages_of page_words) s.plain.memory.heap

-- the most pages of one of these objects; at least 1, since a goroutine may have a page that it has not used yet
abbrev pub most_of : (page_words : ℕ) → List Object → ℕ
most_of page_words [] = 1
most_of page_words (object ∷ objects) = max (pages_of page_words object) (most_of page_words objects)

-- the pages of the object that a goroutine makes next; 1 if it makes none, for a page of its own that it has not used yet
abbrev pub pages_before : (page_words : ℕ) → Option Object → ℕ
pages_before page_words None = 1
pages_before page_words (Some object) = pages_of page_words object

-- the most pages of one object that one of the first n goroutines makes next
abbrev pub most_next : Code → (page_words : ℕ) → RegionState → (n : ℕ) → ℕ
most_next code page_words s zero = 1
most_next code page_words s (suc n) =
    max (pages_before page_words (next_object code s n)) (most_next code page_words s n)

-- the most pages of one object that was made, or that a goroutine makes next; at least 1
abbrev pub most_pages : Code → (page_words : ℕ) → RegionState → ℕ
most_pages code page_words s =
    max (most_of page_words s.plain.memory.heap) (most_next code page_words s (length s.plain.goroutines))

-- A run takes no more pages than this: those of the objects that it made, and for each goroutine those of one object that it may be
-- about to make. The second part is needed because pages are taken before their object, and other goroutines may act between.
abbrev pub enough_pages : Code → (page_words : ℕ) → RegionState → ℕ
enough_pages code page_words s =
    object_pages page_words s + most_pages code page_words s * length s.plain.goroutines
