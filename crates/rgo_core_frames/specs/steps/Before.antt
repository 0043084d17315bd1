-- A goroutine before an instruction, and what follows from its record. Every law of an instruction begins here.
use Rattle.rgo_sound.specs.Code.Code.{Code, CodeInstr}
use Rattle.rgo_sound.specs.Code.Erasure.{erased_op}
use Rattle.rgo_sound.specs.Memory.declared.values.Value.TheVariants as value
use Rattle.rgo_sound.specs.RegionMachine.Duties.{may_go}
use Rattle.rgo_sound.specs.RegionMachine.Owed.{current}
use Rattle.rgo_sound.specs.RegionMachine.States.{Holder, RegionState}
use Rattle.rgo_sound.specs.RegionMachine.declared.regions.Region.{Region}
use Rattle.rgo_sound.specs.NextNames.{HasStake}
use Rattle.rgo_sound.specs.Types.{FramesHaveKinds, MemoryFits}
use Rattle.rgo_sound.specs.Tac.Flow.{reads}
use Rattle.rgo_sound.specs.Tac.Frames.{TacFrame, value_at}
use Rattle.rgo_sound.specs.Typed.declared.types.Type.{«Type»}
use Rattle.std.specs.Prelude.{Contains, List, Some, [], slice_get, true, ℕ, ◌∷◌, ◌≡◌}
use Rattle.rgo_core_frames.specs.Records.{FramesRec}
use Rattle.rgo_core_frames.specs.shown.Variables.{CallersShow, NewestShows}
use Rattle.rgo_core_frames.specs.regions.Slots.{slotted}
use Rattle.rgo_core_frames.specs.shown.WordFrames.{WordFrame, frame_word}
use Rattle.rgo_core_frames.specs.shown.Words.{Shows}

-- Goroutine g is before this instruction, owes nothing and has nothing to acknowledge; c is its record. What it reads is shown, has
-- its type, and points into regions in which it has a stake. Only what it reads: dead variables may have any words. The stake keeps the
-- region live until the goroutine's own next step.
pub record IsBefore
    (code : Code) (slot_of : ℕ → ℕ) (addresses : List ℕ) (s : RegionState) (g : ℕ) (c : FramesRec) (w : WordFrame)
    (ws : List WordFrame) (instr : CodeInstr) : Type 0 where
  pub frame : TacFrame
  pub callers : List TacFrame
  pub h : Holder
  pub at : slice_get s.plain.goroutines g ≡ Some (frame ∷ callers)
  pub there : slice_get s.holders g ≡ Some h
  pub cur : current code frame ≡ Some instr
  pub none : h.duties ≡ []
  pub free : may_go h.offer ≡ true
  pub frames_are : c.frames ≡ w ∷ ws
  pub newest : NewestShows code addresses frame w
  pub waiting : CallersShow code addresses callers ws
  pub holder : c.holder ≡ slotted slot_of h
  pub shown : (v : ℕ) → Contains (reads (erased_op instr.op)) v → Shows addresses (value_at frame v) (frame_word w v)
  pub staked : (v o : ℕ) → Contains (reads (erased_op instr.op)) v → value_at frame v ≡ value.Object o
      → (r : Region) × (slice_get s.owners o ≡ Some r) × HasStake s h r
  pub kinds : List «Type»
  pub memory : MemoryFits code kinds s.plain.memory
  pub typed : FramesHaveKinds code kinds (frame ∷ callers)
