-- What the record of a goroutine says before an operation on a channel. `channel` is the word of the channel in the frame, which may be
-- nil; `base` is the word of the table that has address 0.
use Rattle.std.specs.Prelude.{◌≡◌, ◌≢◌, ◌+◌, ◌-◌, ◌<◌, ◌≤◌, ℕ, List, [], ◌∷◌, Option}
use Rattle.rgo_sound.specs.Code.Code.{Do}
use Rattle.rgo_core.specs.Frames.shown.WordFrames.{frame_word}
use Rattle.rgo_core.specs.Memory.Words.{all_words, base as base_of}
use Rattle.rgo_sound.specs.Typed.declared.actions.Action.TheVariants.{Close, Recv, Send}
use Rattle.rgo_core.specs.ties.AtChannels.{Operates}
use Rattle.rgo_core.specs.Core.{Setup, layout}
use Rattle.rgo_core.specs.Next.{IsAtOp}
use Rattle.rgo_core.specs.Records.{Record}

-- the next instruction sends this value on this channel
pub record IsBeforeSend (T : Setup) (c : Record) (channel value : ℕ) : Type 0 where
  pub to : Option ℕ
  pub from : ℕ
  pub sent : ℕ
  pub removes : List ℕ
  pub here : IsAtOp T.code c (Do to Send (from ∷ sent ∷ []) removes)
  pub on : frame_word here.w from ≡ channel
  pub word : frame_word here.w sent ≡ value

-- it receives from this channel
pub record IsBeforeReceive (T : Setup) (c : Record) (channel : ℕ) : Type 0 where
  pub to : Option ℕ
  pub from : ℕ
  pub removes : List ℕ
  pub here : IsAtOp T.code c (Do to Recv (from ∷ []) removes)
  pub on : frame_word here.w from ≡ channel

-- it closes it
pub record IsBeforeClose (T : Setup) (c : Record) (channel : ℕ) : Type 0 where
  pub to : Option ℕ
  pub from : ℕ
  pub removes : List ℕ
  pub here : IsAtOp T.code c (Do to Close (from ∷ []) removes)
  pub on : frame_word here.w from ≡ channel

-- ---- on a channel that is not nil; `at` is the word of its control

pub record SendsAt (T : Setup) (c : Record) (at value : ℕ) : Type 0 where
  pub to : Option ℕ
  pub sent : ℕ
  pub here : Operates T c to Send (sent ∷ []) at
  pub word : frame_word here.here.w sent ≡ value

abbrev pub ReceivesAt : Setup → Record → (at : ℕ) → Type 0
ReceivesAt T c at = (to : Option ℕ) × Operates T c to Recv [] at

abbrev pub ClosesAt : Setup → Record → (at : ℕ) → Type 0
ClosesAt T c at = (to : Option ℕ) × Operates T c to Close [] at

-- the word of the control of a channel that is not nil
abbrev pub control_of_channel : (base channel : ℕ) → ℕ
control_of_channel base channel = base + (channel - 1)

-- If it is not nil, its control, its capacity and the word after them are words of the table. The callers know this of every pointer in a
-- frame; without it the first load could be outside the table.
abbrev pub LiesIn : Setup → (base channel : ℕ) → Type 0
LiesIn T base channel = channel ≢ 0 → control_of_channel base channel + 3 ≤ all_words (layout T)

-- the pages of the table begin at word `base`, and each has `words` words, at least one
abbrev pub IsPaged : Setup → (base page_words : ℕ) → Type 0
IsPaged T base page_words = (base ≡ base_of (layout T)) × (page_words ≡ T.sizes.page_words) × (0 < page_words)
