-- The store to a control with which an operation on a channel takes effect, and the channel is unlocked. Only the goroutine that has
-- locked it may make it, and it computes the new control from the one that it found when it locked. Both effects are one access, so
-- nobody sees an unlocked channel between two states.
use Rattle.std.specs.Prelude.{◌≡◌, ◌⊎◌, ◌+◌, ◌-◌, ◌%◌, ◌<◌, ℕ, List, [], ◌∷◌, Option, Some}
use Rattle.rgo_sound.specs.Code.Code.{CodeInstr, Do}
use Rattle.rgo_core_channels.specs.Controls.{closed_of, control, count_of, head_of}
use Rattle.rgo_core_channels.specs.Records.{Locked, Offering, Read, Sized, Wrote, at_rest, offering_record}
use Rattle.rgo_core_frames.specs.steps.Actions.{after_action}
use Rattle.rgo_core_frames.specs.goroutines.Meetings.{acknowledged, offering as frame_offering}
use Rattle.rgo_core_frames.specs.shown.WordFrames.{WordFrame, bare, frame_word}
use Rattle.rgo_sound.specs.RegionMachine.Owed.{current}
use Rattle.rgo_sound.specs.Typed.declared.actions.Action.TheVariants.{Close, Recv, Send}
use Rattle.rgo_core.specs.ties.AtChannels.{Operates, commits}
use Rattle.rgo_core.specs.ties.Bounds.{Points, target_type}
use Rattle.rgo_core.specs.Core.{Setup}
use Rattle.rgo_core.specs.Records.{Record, accessed}
use Rattle.rgo_core.specs.Steps.{Moves}

-- A value is sent into a buffer that has room; its word was stored in the first cell that is free. The cell comes first: a receiver that
-- sees the count sees the value.
abbrev pub SendMove : Type 0
SendMove = (T : Setup) (g : ℕ) (c : Record) (to : Option ℕ) (sent at n i size : ℕ) (a : Operates T c to Send (sent ∷ []) at)
    → c.side.hold ≡ Wrote at n i (frame_word a.here.w sent) → c.side.size ≡ Sized at size
    → closed_of n ≡ 0 → count_of n < size → i ≡ (head_of n + count_of n) % size
    → Moves T g c at (λ w. n + 4) (λ w d. d ≡ commits a 0)

-- the record after a receive of this word, which points into the pages
abbrev pub Receives : {T : Setup} {c : Record} {to : Option ℕ} {at : ℕ} → Operates T c to Recv [] at → (word : ℕ) → Record → Type 0
Receives {T} {c} {to} a word d = (d ≡ commits a word) × Points T (target_type T a.here.w to) word

-- The oldest value is received from a buffer; its word was loaded under this lock.
abbrev pub ReceiveMove : Type 0
ReceiveMove = (T : Setup) (g : ℕ) (c : Record) (to : Option ℕ) (at n i x size : ℕ) (a : Operates T c to Recv [] at)
    → c.side.hold ≡ Read at n i x → c.side.size ≡ Sized at size
    → 0 < count_of n → 0 < size → i ≡ head_of n
    → Moves T g c at (λ w. control (closed_of n) (count_of n - 1) ((head_of n + 1) % size)) (λ w. Receives a x)

-- Zero is received from a closed channel in which nothing is left.
abbrev pub ZeroMove : Type 0
ZeroMove = (T : Setup) (g : ℕ) (c : Record) (to : Option ℕ) (at n size : ℕ) (a : Operates T c to Recv [] at)
    → c.side.hold ≡ Locked at n → c.side.size ≡ Sized at size
    → closed_of n ≡ 1 → (size ≡ 0) ⊎ (count_of n ≡ 0)
    → Moves T g c at (λ w. n) (λ w d. d ≡ commits a 0)

abbrev pub CloseMove : Type 0
CloseMove = (T : Setup) (g : ℕ) (c : Record) (to : Option ℕ) (at n : ℕ) (a : Operates T c to Close [] at)
    → c.side.hold ≡ Locked at n → closed_of n ≡ 0
    → Moves T g c at (λ w. n + 2) (λ w d. d ≡ commits a 0)

-- ---- without a buffer

-- the record of a goroutine that offers there
abbrev pub offers : Record → ℕ → Record
offers c at = record { clock = accessed c.clock; frame = frame_offering c.frame; memory = c.memory; side = offering_record at }

-- The value is offered; its word was stored in the cell. The goroutine remains at its send, and may look again in any later turn.
abbrev pub OfferMove : Type 0
OfferMove = (T : Setup) (g : ℕ) (c : Record) (to : Option ℕ) (sent at n : ℕ) (a : Operates T c to Send (sent ∷ []) at)
    → c.side.hold ≡ Wrote at n 0 (frame_word a.here.w sent) → c.side.size ≡ Sized at 0
    → closed_of n ≡ 0 → count_of n ≡ 0
    → Moves T g c at (λ w. n + 4) (λ w d. d ≡ offers c at)

-- An offer is taken; the word of the value was loaded. The sender's record stays: it may be on another thread.
abbrev pub MeetMove : Type 0
MeetMove = (T : Setup) (g : ℕ) (c : Record) (to : Option ℕ) (at n x : ℕ) (a : Operates T c to Recv [] at)
    → c.side.hold ≡ Read at n 0 x → c.side.size ≡ Sized at 0
    → closed_of n ≡ 0 → count_of n ≡ 1
    → Moves T g c at (λ w. n + 4) (λ w. Receives a x)

-- The record of a sender is before this send.
pub record IsAtSend (T : Setup) (c : Record) : Type 0 where
  pub w : WordFrame
  pub ws : List WordFrame
  pub frames : c.frame.frames ≡ w ∷ ws
  pub instr : CodeInstr
  pub cur : current T.code (bare w) ≡ Some instr
  pub to : Option ℕ
  pub from : List ℕ
  pub removes : List ℕ
  pub is : instr.op ≡ Do to Send from removes

-- the sender, whose offer was taken, continues; the meeting has counted its instruction, so this counts none
abbrev pub acknowledges : (T : Setup) (c : Record) → IsAtSend T c → Record
acknowledges T c a = record {
  clock = accessed c.clock;
  frame = acknowledged (after_action T.code c.frame a.w a.ws a.instr a.to 0);
  memory = c.memory;
  side = at_rest;
}

abbrev pub AcknowledgeMove : Type 0
AcknowledgeMove = (T : Setup) (g : ℕ) (c : Record) (at n : ℕ) (a : IsAtSend T c)
    → c.side.post ≡ Offering at → c.side.hold ≡ Locked at n → count_of n ≡ 2
    → Moves T g c at (λ w. n - 8) (λ w d. d ≡ acknowledges T c a)
