-- When the region machine has the step of an access, an allocation or a claim. The laws of accesses take the step as given. Here it
-- follows from what is known of the goroutine, and from its code being checked.
use Rattle.std.specs.Prelude.{◌≡◌, ℕ, ◌+◌, ◌<◌, ◌≤◌, false, true, List, [], length, Some, None, slice_get}
use Rattle.rgo_sound.specs.Typed.declared.actions.Action.{Action}
use Rattle.rgo_sound.specs.Code.Checked.{IsChecked}
use Rattle.rgo_sound.specs.Code.Code.{Code}
use Rattle.rgo_sound.specs.Code.Erasure.{erased}
use Rattle.rgo_sound.specs.Machine.declared.picks.Pick.TheVariants.{One}
use Rattle.rgo_sound.specs.Memory.Effects.{Does}
use Rattle.rgo_sound.specs.Memory.Memory.{Memory, Object}
use Rattle.rgo_sound.proofs.steps.Acting.{performed}
use Rattle.rgo_sound.specs.Tac.Steps.{destination_type}
use Rattle.rgo_sound.specs.Memory.declared.values.Value.{Value}
use Rattle.rgo_sound.specs.RegionMachine.Duties.{may_go}
use Rattle.rgo_sound.specs.RegionMachine.Machine.{Instruct, TakePage, region_step}
use Rattle.rgo_sound.specs.RegionMachine.Objects.{data_pages, fill_of, is_spread, is_too_large, object_words}
use Rattle.rgo_sound.specs.RegionMachine.States.{Holder, RegionState}
use Rattle.rgo_sound.specs.RegionMachine.declared.regions.Region.{Region}
use Rattle.rgo_sound.specs.Good.{AllGood}
use Rattle.rgo_core_memory.specs.Accesses.{Before}
use Rattle.rgo_core_memory.specs.Allocations.{MakesNext}

-- the goroutine owes nothing, and the plain machine has not ended
pub record HolderSettled (s : RegionState) (g : ℕ) (h : Holder) : Type 0 where
  pub running : s.plain.ended ≡ None
  pub there : slice_get s.holders g ≡ Some h
  pub owes : h.duties ≡ []
  pub free : may_go h.offer ≡ true

-- an object that fits the own page can be made; for one that does not, but fits a page, a page can be taken
abbrev pub AllocationExists : Type 0
AllocationExists = (code : Code) (page_words : ℕ) (s : RegionState) (g n : ℕ) (h : Holder) (r : Region)
    (object : Object) → AllGood code s → HolderSettled s g h
    → MakesNext code s g h r object → fill_of h.fills r ≡ Some n → n + object_words object ≤ page_words
    → (t : RegionState) × (region_step code page_words s (Instruct (One g)) ≡ Some t)

abbrev pub PageExists : Type 0
PageExists = (code : Code) (page_words : ℕ) (s : RegionState) (g : ℕ) (h : Holder) (r : Region) (object : Object)
    → AllGood code s → HolderSettled s g h
    → MakesNext code s g h r object → object_words object ≤ page_words → ((n : ℕ) → fill_of h.fills r ≡ Some n
    → page_words < n + object_words object)
    → (t : RegionState) × (region_step code page_words s (TakePage g) ≡ Some t)

-- a spread object that is not too large can be made in its pages; and one of these can be taken, if they are not all taken
abbrev pub AllocationExistsApart : Type 0
AllocationExistsApart = (code : Code) (page_words : ℕ) (s : RegionState) (g : ℕ) (h : Holder) (r : Region)
    (object : Object) → AllGood code s → HolderSettled s g h
    → MakesNext code s g h r object → is_spread page_words object ≡ true → is_too_large page_words object ≡ false
    → data_pages page_words object < h.reserved
    → (t : RegionState) × (region_step code page_words s (Instruct (One g)) ≡ Some t)

abbrev pub ReservedPageExists : Type 0
ReservedPageExists = (code : Code) (page_words : ℕ) (s : RegionState) (g : ℕ) (h : Holder) (r : Region)
    (object : Object) → AllGood code s → HolderSettled s g h
    → MakesNext code s g h r object → is_spread page_words object ≡ true → is_too_large page_words object ≡ false
    → h.reserved ≤ data_pages page_words object
    → (t : RegionState) × (region_step code page_words s (TakePage g) ≡ Some t)

-- an action that makes no object, does not trap and need not wait
abbrev pub AccessExists : Type 0
AccessExists = (code : Code) (page_words : ℕ) (s : RegionState) (g : ℕ) (h : Holder) (a : Action) (values : List Value)
    (m : Memory) (u : Value) → IsChecked code → AllGood code s
    → HolderSettled s g h → (b : Before code s g a values)
    → performed code.structs a (destination_type (erased code) b.frame b.to) values s.plain.memory ≡ Some (Does m u)
    → length m.heap ≡ length s.plain.memory.heap → (t : RegionState)
    × (region_step code page_words s (Instruct (One g)) ≡ Some t)
