-- Records after local steps: they stay possible, and differ from the record before in frames, in what is known of regions, and in
-- how many instructions were made. By `more` the loop may count steps one by one or in bulk.
use Rattle.std.specs.Prelude.{◌≡◌, ◌≤◌, ◌+◌, ℕ, List, [], ◌∷◌, Some, length}
use Rattle.rgo_sound.specs.RegionMachine.States.{Duty}
use Rattle.rgo_core.specs.Channels.Records.{at_rest}
use Rattle.rgo_core.specs.Frames.steps.Quiet.{quiet}
use Rattle.rgo_core.specs.Frames.Records.{FramesRec as FrameRec}
use Rattle.rgo_sound.specs.Machine.Limits.{deepest}
use Rattle.rgo_core.specs.Core.{IsPossible, Setup}
use Rattle.rgo_core.specs.Records.{ClockRec, Record, instructed}
use Rattle.rgo_core_steps.specs.Seats.{NextIsLocal, SettlesBy, settled_by, settled_once}

-- the same except for the number of instructions
abbrev pub with_steps : ClockRec → ℕ → ClockRec
with_steps c n = record c { share = record c.share { steps = n } }

-- local steps may lead from record c to d: they change frames and what is known of regions, and count instructions alone
pub record IsLocal (c d : Record) : Type 0 where
  pub memory : d.memory ≡ c.memory
  pub side : d.side ≡ c.side
  pub clock : d.clock ≡ with_steps c.clock d.clock.share.steps

pub record SettledLaws : Type 0 where
  pub possible : (T : Setup) (g q : ℕ) (c : Record) → IsPossible T g c → SettlesBy T g q c → IsPossible T g (settled_by T g q c)
  pub kept : (T : Setup) (g q : ℕ) (c : Record) → IsLocal c (settled_by T g q c)
  -- p + q steps are p steps and then q
  pub more : (T : Setup) (g p q : ℕ) (c : Record) → settled_by T g (p + q) c ≡ settled_by T g q (settled_by T g p c)
  pub settles : (T : Setup) (g p q : ℕ) (c : Record) → SettlesBy T g p c → SettlesBy T g q (settled_by T g p c) → SettlesBy T g (p + q) c
  -- one step: an instruction, or a duty
  pub instruction : (T : Setup) (g : ℕ) (c : Record) (e : FrameRec) → c.side ≡ at_rest → quiet T.code g c.frame ≡ Some e
      → length e.frames ≤ deepest → c.frame.holder.duties ≡ []
      → NextIsLocal T g c × (settled_once T g c ≡ record c { clock = instructed c.clock; frame = e })
  pub duty : (T : Setup) (g : ℕ) (c : Record) (e : FrameRec) (d : Duty) (ds : List Duty) → c.side ≡ at_rest
      → quiet T.code g c.frame ≡ Some e → length e.frames ≤ deepest → c.frame.holder.duties ≡ d ∷ ds
      → NextIsLocal T g c × (settled_once T g c ≡ record c { frame = e })
