-- The record of a goroutine: its frames in words, and what it has of the regions by their slots. It has the machine's own holder, so
-- names, duties and protections are defined once.
use Rattle.rgo_sound.specs.Code.Code.{Code, CodeOp}
use Rattle.rgo_sound.specs.RegionMachine.Instructions.{holder_after}
use Rattle.rgo_sound.specs.RegionMachine.States.{Holder}
use Rattle.std.specs.Prelude.{List}
use Rattle.rgo_core_frames.specs.shown.WordFrames.{WordFrame, bare, bare_all}

-- Words in place of values, and slots in place of regions: this is what code can compute with. Numbers of regions and of objects
-- exist in proofs alone.
pub record FramesRec : Type 0 where
  pub frames : List WordFrame
  pub holder : Holder

-- The record after an instruction that leaves these frames. Duties and names are those of the machine's own function, which reads only
-- places in the code and the tests of branches (`bare`).
abbrev pub after_op : Code → Holder → WordFrame → List WordFrame → CodeOp → (next : List WordFrame) → FramesRec
after_op code h f callers op next = record {
  frames = next;
  holder = holder_after code h (bare f) (bare_all callers) op (bare_all next);
}
