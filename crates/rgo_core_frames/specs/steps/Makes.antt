-- In which region the next instruction makes an object, by its record.
use Rattle.std.specs.Prelude.{List, None, Some, [], true, ◌∷◌, ◌≡◌}
use Rattle.rgo_sound.specs.Code.Code.{Code, CodeInstr}
use Rattle.rgo_sound.specs.RegionMachine.Objects.{making_region}
use Rattle.rgo_sound.specs.RegionMachine.Owed.{current, function_at, code_function}
use Rattle.rgo_sound.specs.RegionMachine.Regions.{is_live}
use Rattle.rgo_sound.specs.RegionMachine.States.{top_names}
use Rattle.rgo_sound.specs.RegionMachine.declared.regions.Region.{Region}
use Rattle.rgo_core_frames.specs.steps.Local.{local}
use Rattle.rgo_core_frames.specs.Records.{FramesRec}
use Rattle.rgo_core_frames.specs.regions.Slots.{slotted_region}
use Rattle.rgo_core_frames.specs.States.{AtInstruction}
use Rattle.rgo_core_frames.specs.shown.WordFrames.{WordFrame, bare}

-- the region of this slot, which is live, or Global: a stake there follows from the checked code
pub record MakesAt (x : AtInstruction) (by_slot : Region) : Type 0 where
  pub region : Region
  pub slot_is : slotted_region x.here.slot_of region ≡ by_slot
  pub makes : making_region (function_at x.here.code x.before.frame) (top_names x.before.h.environments) x.instr.op
      ≡ Some region
  pub live : is_live x.here.s.regions region ≡ true

abbrev pub RegionLaw : Type 0
RegionLaw =
    (x : AtInstruction) (by_slot : Region)
    → making_region (code_function x.here.code x.w.function) (top_names x.here.c.holder.environments) x.instr.op
    ≡ Some by_slot → MakesAt x by_slot

-- such an instruction is not a local step
abbrev pub MakingLaw : Type 0
MakingLaw =
    (code : Code) (c : FramesRec) (w : WordFrame) (ws : List WordFrame) (instr : CodeInstr) (by_slot : Region)
    → c.holder.duties ≡ [] → c.frames ≡ w ∷ ws → current code (bare w) ≡ Some instr
    → making_region (code_function code w.function) (top_names c.holder.environments) instr.op ≡ Some by_slot
    → local code c ≡ None
