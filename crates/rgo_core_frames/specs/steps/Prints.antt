-- A print: its bytes from the words and the static types of its operands. They are fixed before the ticket is drawn, and stay so, since
-- no other goroutine changes the frame.
use Rattle.rgo_sound.specs.Code.Code.{CodeFn, Print, Slot}
use Rattle.rgo_sound.specs.Machine.Lines.{printed_line}
use Rattle.rgo_sound.specs.Memory.declared.values.Value.TheVariants as value
use Rattle.rgo_sound.specs.Memory.declared.values.Value.{Value}
use Rattle.rgo_sound.specs.RegionMachine.Owed.{code_function}
use Rattle.rgo_sound.specs.Typed.declared.statements.Piece.{Piece}
use Rattle.rgo_sound.specs.Typed.declared.types.Base.TheVariants as base
use Rattle.rgo_sound.specs.Typed.declared.types.Layer.{Layer}
use Rattle.std.specs.Int.{cast_signed, w64}
use Rattle.std.specs.Prelude.{List, None, Option, Some, [], map, slice_get, slice_set, ℕ, ◌+◌, ◌∷◌, ◌≡◌}
use Rattle.rgo_core_frames.specs.Records.{FramesRec, after_op}
use Rattle.rgo_sound.specs.Typed.declared.types.Base.{Base}
use Rattle.rgo_core_frames.specs.States.{AtInstruction}
use Rattle.rgo_core_frames.specs.steps.Bookkept.{PerformsInstr}
use Rattle.rgo_core_frames.specs.shown.WordFrames.{WordFrame, is_set, frame_word, word_moved}

-- the value of an int or a bool that a word shows, by its type
abbrev pub typed_in : List Layer → Base → ℕ → Value
typed_in [] base.Int word = value.Int (cast_signed w64 word)
typed_in [] base.Bool word = value.Bool (is_set word)
typed_in _ _ word = value.Nil

abbrev pub typed_value : Option Slot → ℕ → Value
typed_value None word = value.Nil
typed_value (Some slot) word = typed_in slot.ty.layers slot.ty.base word

abbrev pub printed_values : CodeFn → WordFrame → List ℕ → List Value
printed_values fn w from = map (λ v. typed_value (slice_get fn.variables v) (frame_word w v)) from

-- the record before the next instruction
abbrev pub gone_on : AtInstruction → FramesRec
gone_on x = after_op x.here.code x.here.c.holder x.w x.ws x.instr.op (word_moved x.w (x.w.next + 1) ∷ x.ws)

abbrev pub PrintLaw : Type 0
PrintLaw =
    (x : AtInstruction) (fn : CodeFn) (pieces : List Piece) (from removes : List ℕ)
    → x.instr.op ≡ Print pieces from removes → code_function x.here.code x.w.function ≡ Some fn
    → PerformsInstr x x.here.addresses x.here.s.plain.memory (printed_line pieces (printed_values fn x.w from)) (x.before.h, [])
    (slice_set x.here.records x.here.g (gone_on x))
