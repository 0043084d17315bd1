-- The definitions of accesses to memory, pages and counts, each where it holds and where it must not.
use Rattle.std.specs.Prelude.{◌≡◌, ◌+◌, ℕ, true, false, List, [], ◌∷◌, Some, None, pos}
use Rattle.rgo_sound.specs.Code.Code.{Code, CodeOp, Do}
use Rattle.rgo_core.specs.Frames.goroutines.Opening.{no_record}
use Rattle.rgo_core.specs.Frames.shown.WordFrames.{WordFrame}
use Rattle.rgo_core.specs.Memory.Records.{Fill, page_of}
use Rattle.rgo_core.specs.Rule.declared.accesses.Kind.TheVariants.{CreateRegion}
use Rattle.rgo_core.specs.Rule.Histories.{access}
use Rattle.rgo_sound.specs.Memory.Memory.{Channel, Object, StructObject}
use Rattle.rgo_sound.specs.Memory.declared.values.Value.TheVariants as value
use Rattle.rgo_sound.specs.Machine.declared.limits.Limits.{Limits}
use Rattle.rgo_sound.specs.Machine.declared.limits.Sizes.{Sizes}
use Rattle.rgo_sound.specs.RegionMachine.Examples.{small_code, int_slot, main_of, node_struct, plain_instr}
use Rattle.rgo_sound.specs.RegionMachine.States.{Create}
use Rattle.rgo_sound.specs.Typed.declared.actions.Action.TheVariants as action
use Rattle.rgo_core.specs.examples.Channels.{with_words}
use Rattle.rgo_core.specs.Core.{Setup}
use Rattle.rgo_core.specs.Records.{Record, begins_with}
use Rattle.rgo_core.specs.moves.Regions.{creates}
use Rattle.rgo_core_steps.specs.Accesses.{LengthOfNil, Loads, Stores}
use Rattle.rgo_core_steps.specs.Counts.{IsCreating, IsLeaving, IsSharing, tried_slot, tries_slot}
use Rattle.rgo_core_steps.specs.Examples.{idle}
use Rattle.rgo_core_steps.specs.Making.{IsCalm, RecordMakesNext, covers, object_to_make, next_slot, object_of}
use Rattle.rgo_core_steps.specs.Pages.{tried_page, tries_page}
use Rattle.rgo_core_steps.specs.Searches.{AreTaken, Miss, around, misses, missing, places_of, upward}

-- a frame with these words
abbrev pub frame_with : List ℕ → WordFrame
frame_with words = record { function = 0; next = 0; variables = words }

-- a code with one struct, which has two fields
abbrev pub with_node : Code
with_node = small_code (node_struct ∷ []) []

-- `main` has two variables and this instruction alone
abbrev pub doing_setup : CodeOp → Sizes → Limits → Setup
doing_setup op sizes limits = record {
  code = small_code [] (main_of (int_slot ∷ int_slot ∷ []) (plain_instr op ∷ []) ∷ []);
  sizes = sizes;
  limits = limits;
}

abbrev pub the_length : CodeOp
the_length = Do (Some 1) action.Len (0 ∷ []) []

-- two own pages of slot 3 and one of slot 1
abbrev pub own_pages : List Fill
own_pages = record { slot = 1; page = 7; fill = 2 } ∷ record { slot = 3; page = 8; fill = 0 } ∷ record { slot = 3; page = 9; fill = 4 } ∷ []

-- the goroutine owes these duties
abbrev pub owing : Record
owing = record (begins_with no_record) {
  frame = record no_record { holder = record no_record.holder { duties = Create 5 ∷ Create 6 ∷ [] } };
}

pub record MakingExamples : Type 0 where
  pub struct : object_of with_node (frame_with []) (Some 0) (action.New 0) [] ≡ Some (StructObject (value.Int (pos 0) ∷ value.Nil ∷ []))
  pub no_struct : object_of with_node (frame_with []) (Some 0) (action.New 1) [] ≡ None
  pub channel : object_of with_node (frame_with (4 ∷ [])) (Some 1) action.Chan (0 ∷ []) ≡ Some (Channel 4 [] false)
  -- a buffer that is too large
  pub large : object_of with_node (frame_with (1073741820 ∷ [])) (Some 1) action.Chan (0 ∷ []) ≡ None
  -- a size below 0
  pub negative : object_of with_node (frame_with (9223372036854775808 ∷ [])) (Some 1) action.Slice (0 ∷ []) ≡ None
  pub copied : object_of with_node (frame_with (4 ∷ [])) (Some 1) action.Copy (0 ∷ []) ≡ None
  -- the first own page of a slot
  pub page : page_of 3 own_pages ≡ Some (record { slot = 3; page = 8; fill = 0 })
  pub no_page : page_of 2 own_pages ≡ None
  -- all of the first three words, in any order
  pub covered : covers 3 (1 ∷ 0 ∷ 2 ∷ []) ≡ true
  pub uncovered : covers 3 (2 ∷ 0 ∷ 2 ∷ []) ≡ false
  -- without a frame nothing is made, loaded or stored
  pub nothing : (T : Setup) → object_to_make T idle ≡ None
  pub nowhere : (T : Setup) → next_slot T idle ≡ None
  pub makes_none : (T : Setup) (object : Object) (slot : ℕ) → RecordMakesNext T idle object slot → ⊥
  pub loads_none : (T : Setup) (word : ℕ) → Loads T idle word → ⊥
  pub stores_none : (T : Setup) (word value : ℕ) → Stores T idle word value → ⊥
  pub calm : IsCalm idle
  pub nil_length : (sizes : Sizes) (limits : Limits) → LengthOfNil (doing_setup the_length sizes limits) (with_words (0 ∷ 3 ∷ []))
  -- a slice at address 5
  pub slice_length : (sizes : Sizes) (limits : Limits) → LengthOfNil (doing_setup the_length sizes limits) (with_words (6 ∷ 3 ∷ [])) → ⊥

pub record CountExamples : Type 0 where
  pub creating : IsCreating owing
  pub not_creating : IsCreating idle → ⊥
  pub takes : tries_slot owing 2 0 ≡ creates owing 5 (Create 6 ∷ []) 2
  pub misses : tries_slot owing 2 7 ≡ tried_slot owing 2
  pub not_sharing : (slot : ℕ) → IsSharing owing slot → ⊥
  pub not_leaving : (slot : ℕ) → IsLeaving owing slot → ⊥
  pub page_missed : (T : Setup) → tries_page T idle 4 2 1 ≡ tried_page idle 4

-- slots 1 and 2 were found with these counts
abbrev pub two_misses : List Miss
two_misses = record { place = 1; found = 3 } ∷ record { place = 2; found = 2 } ∷ []

pub record SearchExamples : Type 0 where
  pub order : around 2 5 ≡ 2 ∷ 3 ∷ 4 ∷ 0 ∷ 1 ∷ []
  pub from_zero : around 0 3 ≡ upward 0 3
  pub at_the_end : around 3 3 ≡ upward 0 3
  pub places : places_of two_misses ≡ 1 ∷ 2 ∷ []
  pub taken : AreTaken two_misses
  pub not_taken : AreTaken (record { place = 1; found = 0 } ∷ []) → ⊥
  pub exchanges : misses CreateRegion (λ s. 64 + s) two_misses 9 ≡ access 9 CreateRegion 65 3 3 ∷ access 9 CreateRegion 66 2 2 ∷ []
  -- the record remembers both
  pub remembers : (missing tried_slot idle two_misses).memory.tried_slots ≡ 2 ∷ 1 ∷ []
