-- Where the frames of a goroutine are in the code, by its record. A record may come from any point of a run, so these are invariants of
-- runs, read through it.
use Rattle.std.specs.Prelude.{◌≡◌, ◌⊎◌, ℕ, List, [], ◌∷◌, length, Option, Some, is_some, slice_get}
use Rattle.rgo_sound.specs.Code.Code.{Call, Code, CodeFn, CodeInstr, CodeOp, Return}
use Rattle.rgo_core.specs.Frames.steps.Local.{local}
use Rattle.rgo_core.specs.Frames.Records.{FramesRec as FrameRec}
use Rattle.rgo_core.specs.Frames.shown.WordFrames.{WordFrame, bare}
use Rattle.rgo_sound.specs.RegionMachine.Owed.{current, code_function}
use Rattle.rgo_sound.specs.RegionMachine.States.{NoOffer, Standing}
use Rattle.rgo_sound.specs.Tac.declared.regions.Class.{Class}
use Rattle.rgo_core.specs.moves.Commits.{IsAtSend}
use Rattle.rgo_core.specs.Core.{Situation, Setup}
use Rattle.rgo_core.specs.Next.{IsAtOp}
use Rattle.rgo_core.specs.Records.{Record}

-- P holds of every record that a goroutine may have, whatever the others have
abbrev pub OfRecords : (Setup → Record → Type 0) → Type 0
OfRecords P = (T : Setup) (g : ℕ) (c : Record) → Situation T g c → P T c

-- ---- the code of a frame

-- the frame is at this instruction of this function, and has a word for each of its variables
pub record IsInCode (code : Code) (w : WordFrame) : Type 0 where
  pub fn : CodeFn
  pub in_fn : code_function code w.function ≡ Some fn
  pub instr : CodeInstr
  pub at : slice_get fn.body w.next ≡ Some instr
  pub cur : current code (bare w) ≡ Some instr
  -- each variable of the function has its word, so reading one needs no test
  pub words : length w.variables ≡ length fn.variables

-- every frame is in the code
abbrev pub FramesInCode : Type 0
FramesInCode = OfRecords (λ T c. (i : ℕ) (w : WordFrame) → slice_get c.frame.frames i ≡ Some w → IsInCode T.code w)

-- The function of the frame was called by that of the next frame, which is still at the call. A variable waits for a result exactly if
-- the function has one. So a return needs no place to remember where it returns to.
pub record IsCalledBy (code : Code) (w caller : WordFrame) : Type 0 where
  pub fn : CodeFn
  pub in_fn : code_function code w.function ≡ Some fn
  pub call : CodeInstr
  pub cur : current code (bare caller) ≡ Some call
  pub to : Option ℕ
  pub n : ℕ
  pub from : List ℕ
  pub passes : List Class
  pub protects : List ℕ
  pub removes : List ℕ
  pub is : call.op ≡ Call to n from passes protects removes
  pub calls : code_function code n ≡ Some fn
  pub result : is_some to ≡ is_some fn.result

abbrev pub CallersWait : Type 0
CallersWait = OfRecords (λ T c. (w caller : WordFrame) (ws : List WordFrame) → c.frame.frames ≡ w ∷ caller ∷ ws
    → IsCalledBy T.code w caller)

-- ---- the next instruction

-- A goroutine that has a frame, no duty and no offer is before its next instruction.
pub record IsAtNext (code : Code) (c : Record) (w : WordFrame) (ws : List WordFrame) : Type 0 where
  pub op : CodeOp
  pub here : IsAtOp code c op
  pub newest : here.w ≡ w
  pub callers : here.ws ≡ ws
  pub at : slice_get here.fn.body w.next ≡ Some here.instr
  pub words : length w.variables ≡ length here.fn.variables

abbrev pub NextKnown : Type 0
NextKnown = OfRecords (λ T c. (w : WordFrame) (ws : List WordFrame) → c.frame.frames ≡ w ∷ ws → c.frame.holder.duties ≡ []
    → c.frame.holder.offer ≡ NoOffer → IsAtNext T.code c w ws)

-- A goroutine with an offer is at a send, and has no duty; otherwise it has no offer.
abbrev pub OffersKnown : Type 0
OffersKnown = OfRecords (λ T c. (c.frame.holder.offer ≡ NoOffer)
    ⊎ ((c.frame.holder.offer ≡ Standing 0) × (c.frame.holder.duties ≡ []) × IsAtSend T c))

-- ---- the last return

-- a return without a caller is a local step, and leaves no frame; in `main` it ends the run
abbrev pub LastReturn : Type 0
LastReturn = (T : Setup) (c : Record) (value : Option ℕ) (a : IsAtOp T.code c (Return value)) → a.ws ≡ []
    → (e : FrameRec) × (local T.code c.frame ≡ Some e) × (e.frames ≡ [])
