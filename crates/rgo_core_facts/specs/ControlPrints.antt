-- The operands of a print: each is an int or a bool, whose word fits its type. A bool's word is 0 or 1, so it can be tested either way.
use Rattle.std.specs.Int.{cast_signed, w64}
use Rattle.std.specs.Prelude.{◌≡◌, ◌⊎◌, ◌<◌, ◌^◌, ℕ, List, Contains, Some, slice_get}
use Rattle.rgo_sound.specs.Code.Code.{CodeFn, Print, Slot}
use Rattle.rgo_core.specs.Frames.steps.Prints.{typed_value}
use Rattle.rgo_core.specs.Frames.shown.WordFrames.{WordFrame, is_set, frame_word}
use Rattle.rgo_sound.specs.Memory.declared.values.Value.TheVariants as value
use Rattle.rgo_sound.specs.Typed.declared.statements.Piece.{Piece}
use Rattle.rgo_sound.specs.WellFormed.TypeRules.{bool, int}
use Rattle.rgo_core.specs.Next.{IsAtOp}
use Rattle.rgo_core_facts.specs.ControlFrames.{OfRecords}

-- the word shows an int of the variable's type
pub record IsIntWord (slot : Slot) (word : ℕ) : Type 0 where
  pub ty : slot.ty ≡ int
  pub fits : word < 2 ^ 64
  pub shows : typed_value (Some slot) word ≡ value.Int (cast_signed w64 word)

-- the same of a bool
pub record IsBoolWord (slot : Slot) (word : ℕ) : Type 0 where
  pub ty : slot.ty ≡ bool
  pub fits : (word ≡ 0) ⊎ (word ≡ 1)
  pub shows : typed_value (Some slot) word ≡ value.Bool (is_set word)

pub record CanBePrinted (fn : CodeFn) (w : WordFrame) (v : ℕ) : Type 0 where
  pub slot : Slot
  pub is : slice_get fn.variables v ≡ Some slot
  pub word : IsIntWord slot (frame_word w v) ⊎ IsBoolWord slot (frame_word w v)

abbrev pub OperandsPrinted : Type 0
OperandsPrinted = OfRecords (λ T c. (pieces : List Piece) (from removes : List ℕ) (a : IsAtOp T.code c (Print pieces from removes))
    → (v : ℕ) → Contains from v → CanBePrinted a.fn a.w v)
