-- Region safety: what holds in every state of every region run of checked code. That no step touches a removed region is not among
-- these facts: the machine has no such step (`NamesOnlyLive` is the fact from which it follows without a look at the machine). What could
-- be wrong with the machine's state is said here, and that the machine is never stuck is `NoStepMissing`.
use Rattle.std.specs.Prelude.{Contains, List, Some, [], length, map, max, slice_get, true, ℕ, ◌*◌, ◌++◌, ◌+◌, ◌∷◌, ◌≡◌}
use Rattle.std.specs.Prelude.{◌≤◌, false}
use Rattle.rgo_code.specs.Checked.{IsChecked}
use Rattle.rgo_code.specs.Code.{Code, CodeFn, Slot}
use Rattle.rgo_code.specs.NameRules.{Ascends}
use Rattle.rgo_code.specs.Names.{distinct_names, result_class}
use Rattle.rgo_memory.specs.Memory.{Channel, Object, SliceObject, StructObject}
use Rattle.rgo_memory.specs.declared.values.Value.{Value}
use Rattle.rgo_region_machine.specs.Counts.{counts_of}
use Rattle.rgo_region_machine.specs.Machine.{Event, next_object, region_run, region_step}
use Rattle.rgo_region_machine.specs.Objects.{is_spread}
use Rattle.rgo_region_machine.specs.Regions.{RegionInfo, is_live}
use Rattle.rgo_region_machine.specs.Room.{enough_pages}
use Rattle.rgo_region_machine.specs.States.{Holder, RegionState}
use Rattle.rgo_region_machine.specs.declared.regions.Region.{Region}
use Rattle.rgo_sound.specs.Holding.{OneHoldingName}
use Rattle.rgo_sound.specs.Stakes.{HasEnded, StakesAreCounted}
use Rattle.rgo_memory.specs.declared.values.Value.TheVariants as value

-- ---- pointers

-- the values of an object: its fields, its elements, or what is in its queue
abbrev pub cells_of : Object → List Value
cells_of (StructObject cells) = cells
cells_of (SliceObject cells) = cells
cells_of (Channel capacity queue closed) = queue

-- A pointer in a cell of a live region leads into the same region. Without this a live object could lead to a removed one, and the
-- names of a function would say nothing about what it reaches. Nothing is said of the cells of removed regions, which no step reads.
abbrev pub PointersStay : RegionState → Type 0
PointersStay s =
    (o p : ℕ) (object : Object) (r : Region) → slice_get s.plain.memory.heap o ≡ Some object → slice_get s.owners o
    ≡ Some r → is_live s.regions r ≡ true →
    Contains (cells_of object) (value.Object p) → slice_get s.owners p ≡ Some r

-- ---- numbers

-- how many region names a function has
abbrev pub name_count : CodeFn → ℕ
name_count f = length (distinct_names [] (map (λ (slot : Slot). slot.class) f.variables ++ result_class f ∷ []))

-- the most region names of one function
abbrev pub most_names : List CodeFn → ℕ
most_names [] = 0
most_names (f ∷ fs) = max (name_count f) (most_names fs)

-- every goroutine has ended
abbrev pub AllEnded : RegionState → Type 0
AllEnded s = (g : ℕ) (h : Holder) → slice_get s.holders g ≡ Some h → HasEnded s g h

-- Pages are bounded by objects, regions by steps and names, and when every goroutine has ended, every region was removed. The two
-- bounds forbid a machine that takes pages or creates regions for nothing; the last fact forbids one that forgets to remove them.
pub record CountsFit (code : Code) (page_words : ℕ) (s : RegionState) : Type 0 where
  pub pages : (counts_of s).taken ≤ enough_pages code page_words s
  -- each instruction creates at most the names of its function, and each goroutine may be on the way to one more instruction
  pub regions : (counts_of s).made ≤ ((counts_of s).steps + (counts_of s).goroutines) * most_names code.functions
  -- a premise on all goroutines: one that waits for ever keeps its stakes, and it may have been passed any region
  pub all_removed : AllEnded s → (counts_of s).made ≡ (counts_of s).removed

-- what holds in every state of a run of checked code
pub record IsSafe (code : Code) (page_words : ℕ) (s : RegionState) : Type 0 where
  pub stakes : StakesAreCounted s
  pub names : OneHoldingName s
  pub pointers : PointersStay s
  pub counts : CountsFit code page_words s

abbrev pub Safety : Type 0
Safety = (code : Code) (page_words : ℕ) (events : List Event) (s : RegionState) → IsChecked code → Ascends code
    → region_run code page_words events ≡ Some s → IsSafe code page_words s

-- A region whose last stake has ended stays as it was: none is removed twice, and none gets a page after its removal. It needs no
-- checked code, since each step tests that its region is live.
abbrev pub RemovedStays : Type 0
RemovedStays =
    (code : Code) (page_words : ℕ) (s t : RegionState) (event : Event) (r : ℕ) (info : RegionInfo)
    → region_step code page_words s event ≡ Some t →
    slice_get s.regions r ≡ Some info → info.stakes ≡ 0 → slice_get t.regions r ≡ Some info

-- if no object is spread, the bound on pages is the number of objects and goroutines
abbrev pub WholeIsEnough : Type 0
WholeIsEnough =
    (code : Code) (page_words : ℕ) (s : RegionState)
    → ((o : ℕ) (object : Object) → slice_get s.plain.memory.heap o ≡ Some object → is_spread page_words object ≡ false) →
    ((g : ℕ) (object : Object) → next_object code s g ≡ Some object → is_spread page_words object ≡ false) →
    enough_pages code page_words s ≡ (counts_of s).objects + (counts_of s).goroutines
