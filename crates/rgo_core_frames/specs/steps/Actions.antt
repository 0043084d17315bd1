-- Actions that touch words of the table, given what the image of memory shows of what they read or make. So this crate needs no
-- positions and no pages, and the crate above joins both parts.
use Rattle.rgo_sound.specs.Code.Code.{Code, CodeFn, CodeInstr, Do}
use Rattle.rgo_sound.specs.Code.Erasure.{erased, erased_fn}
use Rattle.rgo_sound.specs.Code.Types.{VariableHasType}
use Rattle.rgo_sound.specs.Memory.Effects.{Does}
use Rattle.rgo_sound.specs.Memory.Fields.{field_value}
use Rattle.rgo_sound.specs.Memory.Memory.{Memory}
use Rattle.rgo_sound.specs.Memory.declared.values.Value.{Value}
use Rattle.rgo_sound.specs.RegionMachine.Objects.{allotted, making_region}
use Rattle.rgo_sound.specs.RegionMachine.Owed.{function_at, code_function}
use Rattle.rgo_sound.specs.RegionMachine.States.{Holder, top_names}
use Rattle.rgo_sound.specs.RegionMachine.declared.regions.Region.{Region}
use Rattle.rgo_sound.proofs.steps.Acting.{performed}
use Rattle.rgo_sound.specs.Tac.Frames.{operand_values}
use Rattle.rgo_sound.specs.Tac.Steps.{destination_type}
use Rattle.rgo_sound.specs.Typed.Types.{is_pointer_like}
use Rattle.rgo_sound.specs.Typed.declared.actions.Action.TheVariants as action
use Rattle.rgo_sound.specs.Typed.declared.actions.Action.{Action}
use Rattle.rgo_sound.specs.Typed.declared.types.Type.{«Type»}
use Rattle.std.specs.Prelude.{List, Option, Some, [], length, slice_get, slice_set, suc, true, ℕ, ◌++◌, ◌∷◌, ◌≡◌}
use Rattle.rgo_core_frames.specs.Fits.{IsOfLive, ObjectsDiffer}
use Rattle.rgo_core_frames.specs.Records.{FramesRec, after_op}
use Rattle.rgo_core_frames.specs.States.{AtInstruction}
use Rattle.rgo_core_frames.specs.steps.Bookkept.{PerformsInstr}
use Rattle.rgo_core_frames.specs.shown.WordFrames.{WordFrame, frame_word, word_going}
use Rattle.rgo_core_frames.specs.shown.Words.{Shows}

-- the record after an action whose value is this word
abbrev pub after_action : Code → FramesRec → WordFrame → List WordFrame → CodeInstr → Option ℕ → ℕ → FramesRec
after_action code c w ws instr to word = after_op code c.holder w ws instr.op (word_going w to word ∷ ws)

-- the records after it
abbrev pub acted_records : AtInstruction → Option ℕ → ℕ → List FramesRec
acted_records x to word = slice_set x.here.records x.here.g (after_action x.here.code x.here.c x.w x.ws x.instr to word)

-- An action that does not trap. Two facts about memory are premises: the word shows the action's value over the addresses of the
-- objects after it, of which a new one is the last; and no two objects of live regions share an address.
abbrev pub ActionLaw : Type 0
ActionLaw =
    (x : AtInstruction) (more : List ℕ) (to : Option ℕ) (action : Action) (from removes : List ℕ) (memory : Memory)
    (v : Value) (word : ℕ) (given : Holder × List Region) → x.instr.op ≡ Do to action from removes
    → performed x.here.code.structs action (destination_type (erased x.here.code) x.before.frame to)
    (operand_values x.before.frame from) x.here.s.plain.memory
    ≡ Some (Does memory v)
    → allotted x.here.page_words x.before.h
    (making_region (function_at x.here.code x.before.frame) (top_names x.before.h.environments) x.instr.op)
    (slice_get memory.heap (length x.here.s.plain.memory.heap)) ≡ Some given
    → Shows (x.here.addresses ++ more) v word → length (x.here.addresses ++ more) ≡ length memory.heap
    → ObjectsDiffer (x.here.addresses ++ more) x.here.s.regions (x.here.s.owners ++ given.1)
    → PerformsInstr x (x.here.addresses ++ more) memory [] given (acted_records x to word)

-- A load that found this word. What the word of an object of a live region shows is a premise about memory.
abbrev pub FrameLoadLaw : Type 0
FrameLoadLaw =
    (x : AtInstruction) (fn : CodeFn) (d k p a found : ℕ) (ty : «Type») (removes : List ℕ)
    → x.instr.op ≡ Do (Some d) (action.Load k) (p ∷ []) removes → code_function x.here.code x.w.function ≡ Some fn
    → VariableHasType (erased_fn fn) p ty → is_pointer_like ty ≡ true → frame_word x.w p ≡ suc a
    → ((o : ℕ) → slice_get x.here.addresses o ≡ Some a → IsOfLive x.here.s.regions x.here.s.owners o
    → Shows x.here.addresses (field_value (slice_get x.here.s.plain.memory.heap o) k) found)
    → PerformsInstr x x.here.addresses x.here.s.plain.memory [] (x.before.h, []) (acted_records x (Some d) found)
