-- The start of a goroutine: the parent's record, and the child's. The child's stakes come from the pending ones of its parent, so no
-- count changes at this moment.
use Rattle.rgo_sound.specs.Code.Code.{Code, CodeFn, CodeOp, Go}
use Rattle.rgo_sound.specs.RegionMachine.Instructions.{child_holder}
use Rattle.rgo_sound.specs.RegionMachine.Owed.{code_function}
use Rattle.rgo_sound.specs.RegionMachine.States.{Holder}
use Rattle.rgo_sound.specs.Tac.declared.regions.Class.{Class}
use Rattle.std.specs.Prelude.{List, Some, [], map, slice_set, ℕ, ◌++◌, ◌∷◌, ◌≡◌}
use Rattle.rgo_core_frames.specs.steps.Prints.{gone_on}
use Rattle.rgo_core_frames.specs.Records.{FramesRec}
use Rattle.rgo_core_frames.specs.States.{AtInstruction}
use Rattle.rgo_core_frames.specs.steps.Bookkept.{PerformsInstr}
use Rattle.rgo_core_frames.specs.shown.WordFrames.{WordFrame, bare_all, word_called, words_of}

-- the records of the goroutine that an instruction starts, if it starts one
abbrev pub child_records : Code → Holder → CodeOp → List WordFrame → List FramesRec
child_records code h op frames =
    map (λ k. record { frames = frames; holder = k }) (child_holder code h op (bare_all frames))

abbrev pub GoLaw : Type 0
GoLaw =
    (x : AtInstruction) (n : ℕ) (callee : CodeFn) (from : List ℕ) (passes : List Class) (removes : List ℕ)
    → x.instr.op ≡ Go n from passes removes → code_function x.here.code n ≡ Some callee
    → PerformsInstr x x.here.addresses x.here.s.plain.memory [] (x.before.h, [])
    (slice_set x.here.records x.here.g (gone_on x)
    ++ child_records x.here.code x.here.c.holder x.instr.op (word_called callee n (words_of x.w from) ∷ []))
