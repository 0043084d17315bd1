-- Records that are before an access to an element, and some that are not; what they know of lengths; and pages that are to be
-- freed.
use Rattle.std.specs.Prelude.{◌≡◌, ◌+◌, ℕ, List, [], ◌∷◌, Some, slice_set}
use Rattle.rgo_sound.specs.Code.Code.{Code, Do}
use Rattle.rgo_core_memory.specs.Opening.{first_record, first_words}
use Rattle.rgo_core_memory.specs.Records.{Calm, Gave, Measured, Owes, Past, with_give}
use Rattle.rgo_core_memory.specs.Words.{base}
use Rattle.rgo_core_frames.specs.goroutines.Opening.{no_record}
use Rattle.rgo_sound.specs.RegionMachine.Examples.{small_code, int_slot, main_of, plain_instr}
use Rattle.rgo_sound.specs.Typed.declared.actions.Action.TheVariants.{At}
use Rattle.rgo_core.specs.moves.Cells.{IsInSlice, measures}
use Rattle.rgo_core.specs.examples.Channels.{with_words}
use Rattle.rgo_core.specs.moves.ElementTraps.{IsOutside}
use Rattle.rgo_core.specs.ties.Links.{IsAtElement, StillMeasured, Link, left_to_free}
use Rattle.rgo_core.specs.Records.{Record, begins_with, instructed}
use Rattle.rgo_core.specs.examples.Traces.{filled_words, tiny}

-- `main` of this code loads element `variable 1` of variable 0
abbrev pub loading_code : Code
loading_code = small_code [] (main_of (int_slot ∷ int_slot ∷ int_slot ∷ []) (plain_instr (Do (Some 2) At (0 ∷ 1 ∷ []) []) ∷ []) ∷ [])

-- before that, for a slice at address 5
abbrev pub loads : Record
loads = with_words (6 ∷ 3 ∷ 0 ∷ [])

-- four elements were read for the slice at address 5, as the first instruction
abbrev pub four_measured : Measured
four_measured = record { address = 5; elements = 4; steps = 0 }

abbrev pub knowing : Record
knowing = measures loads 5 4

-- an instruction later
abbrev pub later : Record
later = record knowing { clock = instructed knowing.clock }

-- words with this one where the slice begins
abbrev pub with_length : ℕ → List ℕ
with_length n = slice_set (first_words tiny) (base tiny + 5) n

-- a record that has pages of slot 0 to free
abbrev pub freeing_record : (owed : ℕ) → Record
freeing_record n = record (begins_with no_record) {
  clock = record (begins_with no_record).clock { owed = n };
  memory = with_give first_record (Owes 0);
}

pub record LinkExamples : Type 0 where
  pub before : IsAtElement loading_code loads 5
  pub other : IsAtElement loading_code loads 6 → ⊥
  pub nowhere : (code : Code) (at : ℕ) → IsAtElement code (begins_with no_record) at → ⊥
  -- an index is within the length, or it is not
  pub read : knowing.memory.measured ≡ Some four_measured
  pub inside : IsInSlice knowing 5 3
  pub outside : IsInSlice knowing 5 4 → ⊥
  pub unread : IsInSlice loads 5 3 → ⊥
  pub beyond : IsOutside knowing 5 4
  pub not_beyond : IsOutside knowing 5 3 → ⊥
  -- nothing is known after an instruction
  pub late : IsInSlice later 5 3 → ⊥
  -- the slice still has the length, or it has not
  pub knows : StillMeasured loading_code tiny (with_length 4) knowing four_measured
  pub changed : StillMeasured loading_code tiny (with_length 5) knowing four_measured → ⊥
  -- after the goroutine has continued, nothing is required
  pub gone : StillMeasured loading_code tiny (with_length 5) later four_measured
  -- two pages are claimed for slot 0
  pub left : left_to_free tiny filled_words (Owes 0) ≡ 2
  pub left_after : left_to_free tiny filled_words (Past 0 1 2) ≡ 2
  pub left_none : left_to_free tiny filled_words Calm ≡ 0
  pub left_other : left_to_free tiny filled_words (Gave 1) ≡ 0
  pub owes : Link loading_code tiny filled_words (freeing_record 2)
  pub owes_fewer : Link loading_code tiny filled_words (freeing_record 1) → ⊥
