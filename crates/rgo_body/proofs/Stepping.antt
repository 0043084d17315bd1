-- An instruction that is a local step: nothing is owed before it, so the next step of the record is the instruction itself.
use Rattle.std.proofs.Common.{◌≡◌, ◌≤◌, ℕ, zero, suc, Bool, false, List, [], ◌∷◌, Some, None, refl, ap, ◌∙◌, if◌then◌else◌, length, option_and_then}
use Rattle.std.specs.Option.{option_map}
use Rattle.rgo_sound.specs.Code.Code.{Code, CodeInstr}
use Rattle.rgo_core.specs.Core.{Setup}
use Rattle.rgo_core.specs.Laws.{clock_after}
use Rattle.rgo_core.specs.Records.{Record, instructed}
use Rattle.rgo_core.specs.Channels.Records.{at_rest}
use Rattle.rgo_core.specs.Frames.steps.Local.{local, local_by, local_frames, local_instr, local_op}
use Rattle.rgo_core.specs.Frames.steps.Quiet.{is_exit, quiet, unless_exit}
use Rattle.rgo_core.specs.Frames.Records.{FramesRec as FrameRec, after_op}
use Rattle.rgo_core.specs.Frames.shown.WordFrames.{WordFrame, bare}
use Rattle.rgo_core_steps.proofs.record_steps.Settling.{once_is}
use Rattle.rgo_core_steps.specs.Seats.{SettlesBy, settled_by}
use Rattle.rgo_sound.specs.Machine.Limits.{deepest}
use Rattle.rgo_sound.specs.RegionMachine.Owed.{current}
use Rattle.rgo_sound.specs.RegionMachine.States.{Duty}

-- the record after the next instruction, where it is a local one
pub local_is : (code : Code) (c : FrameRec) (w : WordFrame) (ws : List WordFrame) (instr : CodeInstr) (next : List WordFrame)
    → c.holder.duties ≡ [] → c.frames ≡ w ∷ ws → current code (bare w) ≡ Some instr → local_op code w ws instr.op ≡ Some next
    → local code c ≡ Some (after_op code c.holder w ws instr.op next)
local_is code c w ws instr next none are cur does =
    ap (local_by code c) none
    ∙ ap (local_frames code c.holder) are
    ∙ ap (option_and_then (local_instr code c.holder w ws)) cur
    ∙ ap (option_map (after_op code c.holder w ws instr.op)) does

pub quiet_is : (code : Code) (g : ℕ) (c e : FrameRec) → local code c ≡ Some e → is_exit g e.frames ≡ false → quiet code g c ≡ Some e
quiet_is code g c e is stays =
    ap (option_and_then (unless_exit g)) is ∙ ap (λ (b : Bool). if b then None else Some e) stays

-- a goroutine that has a frame has not returned
pub not_exit : (g : ℕ) (w : WordFrame) (ws : List WordFrame) → is_exit g (w ∷ ws) ≡ false
not_exit zero w ws = refl
not_exit (suc g) w ws = refl

-- one local step that is an instruction
pub record StepIs (T : Setup) (g : ℕ) (c : Record) (e : FrameRec) : Type 0 where
  pub settles : SettlesBy T g 1 c
  pub is : settled_by T g 1 c ≡ record c { clock = instructed c.clock; frame = e }

pub step_is : (T : Setup) (g : ℕ) (c : Record) (e : FrameRec) → c.side ≡ at_rest → c.frame.holder.duties ≡ []
    → local T.code c.frame ≡ Some e → is_exit g e.frames ≡ false → length e.frames ≤ deepest → StepIs T g c e
step_is T g c e rests none does stays few =
    let q = quiet_is T.code g c.frame e does stays in
    record {
      settles = (record { rests = rests; next = e; is = q; shallow = few }, tt);
      is = once_is T g c e q ∙ ap (λ (ds : List Duty). record c { clock = clock_after ds c.clock; frame = e }) none;
    }
