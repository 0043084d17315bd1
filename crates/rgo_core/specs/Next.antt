-- Where a goroutine is, by its record: before an instruction, owing nothing and with no offer. No other goroutine can change this. With an
-- offer it could: a receiver may make the send in the run.
use Rattle.std.specs.Prelude.{◌≡◌, ℕ, List, [], ◌∷◌, Option, Some}
use Rattle.rgo_sound.specs.Code.Code.{Code, CodeFn, CodeInstr, CodeOp}
use Rattle.rgo_core_frames.specs.steps.Actions.{after_action}
use Rattle.rgo_core_frames.specs.shown.WordFrames.{WordFrame, bare}
use Rattle.rgo_sound.specs.RegionMachine.Owed.{current, code_function}
use Rattle.rgo_sound.specs.RegionMachine.States.{NoOffer}
use Rattle.rgo_core.specs.Records.{Record, ticked}

pub record IsAtOp (code : Code) (c : Record) (op : CodeOp) : Type 0 where
  pub w : WordFrame
  pub ws : List WordFrame
  pub frames : c.frame.frames ≡ w ∷ ws
  pub fn : CodeFn
  pub in_fn : code_function code w.function ≡ Some fn
  pub instr : CodeInstr
  pub cur : current code (bare w) ≡ Some instr
  pub is : instr.op ≡ op
  pub none : c.frame.holder.duties ≡ []
  pub free : c.frame.holder.offer ≡ NoOffer

-- the record after an action by an access whose value is this word
abbrev pub acted_record : (code : Code) (c : Record) {op : CodeOp} → IsAtOp code c op → Option ℕ → ℕ → Record
acted_record code c a to word = record c {
  clock = ticked c.clock;
  frame = after_action code c.frame a.w a.ws a.instr to word;
}
