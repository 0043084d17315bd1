-- A goroutine at a channel, by its record: before an operation on it, or with an offer there. As long as it is there, it has a stake in
-- the channel's region, so the words stay those of the channel.
use Rattle.std.specs.Prelude.{◌≡◌, ◌+◌, ◌⊎◌, ℕ, suc, List, ◌∷◌, Option}
use Rattle.rgo_sound.specs.Code.Code.{Do}
use Rattle.rgo_core_channels.specs.Records.{Offering, ChannelRec as SideRec, at_rest}
use Rattle.rgo_core_channels.specs.Standing.{IsOfChannel}
use Rattle.rgo_core_frames.specs.shown.WordFrames.{frame_word}
use Rattle.rgo_core_memory.specs.Words.{base}
use Rattle.rgo_sound.specs.Typed.declared.actions.Action.{Action}
use Rattle.rgo_core.specs.Core.{Setup, layout}
use Rattle.rgo_core.specs.Next.{IsAtOp, acted_record}
use Rattle.rgo_core.specs.Records.{Record, accessed}

-- The record is before this action on a channel, which is not nil, and on these other operands. `control` is the word of the
-- channel's control.
pub record Operates (T : Setup) (c : Record) (to : Option ℕ) (action : Action) (others : List ℕ) (control : ℕ) : Type 0 where
  pub channel : ℕ
  pub removes : List ℕ
  pub here : IsAtOp T.code c (Do to action (channel ∷ others) removes)
  pub of_channel : IsOfChannel action
  pub address : ℕ
  pub points : frame_word here.w channel ≡ suc address
  pub lies : control ≡ base (layout T) + address

-- its next step concerns the channel with this control
abbrev pub IsAtChannel : Setup → Record → (control : ℕ) → Type 0
IsAtChannel T c control =
    ((to : Option ℕ) × (action : Action) × (others : List ℕ) × Operates T c to action others control)
    ⊎ (c.side.post ≡ Offering control)

-- ---- what accesses do to a record

-- it knows this of channels after an access
abbrev pub knows : Record → SideRec → Record
knows c side = record c { clock = accessed c.clock; side = side }

-- Its operation takes effect by an access, has this word as its value, and unlocks the channel. Whatever the record knew of the channel
-- is forgotten: it may be outdated at the next operation.
abbrev pub commits : {T : Setup} {c : Record} {to : Option ℕ} {action : Action} {others : List ℕ} {control : ℕ}
    → Operates T c to action others control → (word : ℕ) → Record
commits {T} {c} {to} a word = record (acted_record T.code c a.here to word) { side = at_rest }
