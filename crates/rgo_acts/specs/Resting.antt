-- What a goroutine knows of channels while it is before no operation on one: nothing. What it had found there may be outdated by the time
-- it comes back.
use Rattle.std.specs.Prelude.{◌≡◌, ℕ, List, [], ◌∷◌, Option, Some}
use Rattle.rgo_sound.specs.Code.Code as code
use Rattle.rgo_sound.specs.Code.Code.{CodeInstr}
use Rattle.rgo_sound.specs.Code.Erasure.{erased_op}
use Rattle.rgo_core.specs.Channels.Records.{Free, Nowhere, at_rest}
use Rattle.rgo_core.specs.Channels.Standing.{IsOfChannel}
use Rattle.rgo_core.specs.Frames.shown.WordFrames.{WordFrame, bare}
use Rattle.rgo_sound.specs.RegionMachine.Owed.{current}
use Rattle.rgo_sound.specs.RegionMachine.States.{NoOffer}
use Rattle.rgo_sound.specs.Tac.Code.{Do, Op}
use Rattle.rgo_sound.specs.Typed.declared.actions.Action.{Action}
use Rattle.rgo_core.specs.Core.{Situation, Setup}
use Rattle.rgo_core.specs.Next.{IsAtOp}
use Rattle.rgo_core.specs.Records.{Record}
use Rattle.rgo_body.specs.Bodies.{frames_of_body}
use Rattle.rgo_body.specs.Programs.{CompactProgram}
use Rattle.rgo_body.specs.declared.bodies.Body.{Body}

-- an operation on a channel
abbrev pub IsTalk : Op → Type 0
IsTalk op = (to : Option ℕ) × (act : Action) × (from : List ℕ) × IsOfChannel act × (op ≡ Do to act from)

-- the body owes no duty of its queue, and its newest frame is at such an operation
pub record IsAtTalk (p : CompactProgram) (b : Body) : Type 0 where
  pub queue : b.queue.duties ≡ []
  pub w : WordFrame
  pub ws : List WordFrame
  pub frames : frames_of_body b ≡ w ∷ ws
  pub instr : CodeInstr
  pub cur : current p.code (bare w) ≡ Some instr
  pub talks : IsTalk (erased_op instr.op)

-- A goroutine that has locked no channel and has no offer knows nothing of channels, unless it is before an operation on one.
abbrev pub RestsElsewhere : Type 0
RestsElsewhere = (T : Setup) (g : ℕ) (c : Record) → Situation T g c → c.side.hold ≡ Free → c.side.post ≡ Nowhere
    → c.frame.holder.offer ≡ NoOffer
    → ((to : Option ℕ) (act : Action) (from removes : List ℕ) → IsOfChannel act → IsAtOp T.code c (code.Do to act from removes) → ⊥)
    → c.side ≡ at_rest
