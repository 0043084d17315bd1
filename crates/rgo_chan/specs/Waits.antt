-- What follows from the results: why a goroutine is blocked, at a moment at which the words are what it found; and what it may do
-- next. The laws about what comes next let a caller try again with no other premise than the result: their records are the premises
-- of the operations.
use Rattle.std.specs.Prelude.{◌≡◌, ◌+◌, ◌%◌, ℕ, slice_index}
use Rattle.rgo_core.specs.Channels.Deadlock.{Blocked}
use Rattle.rgo_core.specs.Channels.Records.{Free, Offering, Shut, Stranded}
use Rattle.rgo_core.specs.Rule.Views.{Me}
use Rattle.rgo_core.specs.ties.Moments.{moment}
use Rattle.rgo_core.specs.ties.AtChannels.{IsAtChannel}
use Rattle.rgo_core.specs.moves.Commits.{IsAtSend}
use Rattle.rgo_core.specs.Core.{Situation, Setup}
use Rattle.rgo_core.specs.Records.{Record}
use Rattle.rgo_core_steps.specs.Seats.{mine}
use Rattle.rgo_chan.specs.Answers.{Acknowledges, Closes, Receives, Sends}
use Rattle.rgo_chan.specs.Before.{ClosesAt, IsBeforeReceive, IsBeforeSend, ReceivesAt, SendsAt}
use Rattle.rgo_chan.specs.Ready.{IsEmpty, IsBufferFull, IsOffered, IsOpen}
use Rattle.rgo_chan.specs.declared.answers.Tried.TheVariants.{Busy, NotReady, Offered, Trap}

-- ---- blocked goroutines. Goroutine g has this record at a moment of the table with the words x.words.

-- a send was not ready
abbrev pub SendWaits : Type 0
SendWaits = (T : Setup) (g : ℕ) (c : Record) (x : Situation T g c) (at value size n : ℕ) → SendsAt T c at value
    → slice_index x.words (at + 1) ≡ size → slice_index x.words at ≡ n → IsBufferFull size n → Blocked (moment x) g c.side

-- a receive was not
abbrev pub ReceiveWaits : Type 0
ReceiveWaits = (T : Setup) (g : ℕ) (c : Record) (x : Situation T g c) (at size n : ℕ) → ReceivesAt T c at
    → slice_index x.words (at + 1) ≡ size → slice_index x.words at ≡ n → IsEmpty size n → Blocked (moment x) g c.side

-- the channel is nil, so it is blocked at every moment
abbrev pub NilSendWaits : Type 0
NilSendWaits = (T : Setup) (g : ℕ) (c : Record) (x : Situation T g c) (value : ℕ) → IsBeforeSend T c 0 value → Blocked (moment x) g c.side

abbrev pub NilReceiveWaits : Type 0
NilReceiveWaits = (T : Setup) (g : ℕ) (c : Record) (x : Situation T g c) → IsBeforeReceive T c 0 → Blocked (moment x) g c.side

-- the own offer is not taken
abbrev pub OfferWaits : Type 0
OfferWaits = (T : Setup) (g : ℕ) (c : Record) (x : Situation T g c) (at n : ℕ) → c.side.post ≡ Offering at
    → slice_index x.words at ≡ n → IsOpen n → IsOffered n → Blocked (moment x) g c.side

-- The control was locked. If an exchange found another control than the load before it, there is no moment at which both were so.
abbrev pub LockWaits : Type 0
LockWaits = (T : Setup) (g : ℕ) (c : Record) (x : Situation T g c) (at n : ℕ) → IsAtChannel T c at
    → slice_index x.words at ≡ n → n % 2 ≡ 1 → Blocked (moment x) g c.side

-- ---- what a goroutine may do next, by its record d

-- it may try again
pub record MaySendAgain (T : Setup) (d : Record) (at value : ℕ) : Type 0 where
  pub free : d.side.hold ≡ Free
  pub here : SendsAt T d at value

pub record MayAcknowledge (T : Setup) (d : Record) (at : ℕ) : Type 0 where
  pub free : d.side.hold ≡ Free
  pub own : d.side.post ≡ Offering at
  pub here : IsAtSend T d

-- After a send: it may try again; it may ask whether its offer was taken; or it has seen that the channel is closed.
pub record SendNext (T : Setup) (at value : ℕ) (c : Record) (m : Me Record) (s : ℕ) (w : Me Record) (t : ℕ) : Type 0 where
  pub not_ready : Sends T at c value NotReady m s w t → MaySendAgain T (mine T w) at value
  pub busy : (k : ℕ) → Sends T at c value (Busy k) m s w t → MaySendAgain T (mine T w) at value
  pub offered : Sends T at c value Offered m s w t → MayAcknowledge T (mine T w) at
  pub trap : (e : ℕ) → Sends T at c value (Trap e) m s w t → SendsAt T (mine T w) at value × ((mine T w).side.saw ≡ Shut at)

abbrev pub SendThen : Type 0
SendThen = (T : Setup) (at value : ℕ) (c : Record) (m : Me Record) (s : ℕ) (w : Me Record) (t : ℕ) → c.side.hold ≡ Free
    → SendsAt T c at value → SendNext T at value c m s w t

pub record ReceiveNext (T : Setup) (at : ℕ) (c : Record) (m : Me Record) (s : ℕ) (w : Me Record) (t : ℕ) : Type 0 where
  pub not_ready : Receives T at c NotReady m s w t → ((mine T w).side.hold ≡ Free) × ReceivesAt T (mine T w) at
  pub busy : (k : ℕ) → Receives T at c (Busy k) m s w t → ((mine T w).side.hold ≡ Free) × ReceivesAt T (mine T w) at

abbrev pub ReceiveThen : Type 0
ReceiveThen = (T : Setup) (at : ℕ) (c : Record) (m : Me Record) (s : ℕ) (w : Me Record) (t : ℕ) → c.side.hold ≡ Free → ReceivesAt T c at
    → ReceiveNext T at c m s w t

pub record CloseNext (T : Setup) (at : ℕ) (c : Record) (m : Me Record) (s : ℕ) (w : Me Record) (t : ℕ) : Type 0 where
  pub busy : (k : ℕ) → Closes T at c (Busy k) m s w t → ((mine T w).side.hold ≡ Free) × ClosesAt T (mine T w) at
  pub trap : (e : ℕ) → Closes T at c (Trap e) m s w t → ClosesAt T (mine T w) at × ((mine T w).side.saw ≡ Shut at)

abbrev pub CloseThen : Type 0
CloseThen = (T : Setup) (at : ℕ) (c : Record) (m : Me Record) (s : ℕ) (w : Me Record) (t : ℕ) → c.side.hold ≡ Free → ClosesAt T c at
    → CloseNext T at c m s w t

pub record AcknowledgeNext (T : Setup) (at : ℕ) (c : Record) (m : Me Record) (s : ℕ) (w : Me Record) (t : ℕ) : Type 0 where
  pub not_ready : Acknowledges T at c NotReady m s w t → MayAcknowledge T (mine T w) at
  pub busy : (k : ℕ) → Acknowledges T at c (Busy k) m s w t → MayAcknowledge T (mine T w) at
  pub trap : (e : ℕ) → Acknowledges T at c (Trap e) m s w t → IsAtSend T (mine T w) × ((mine T w).side.saw ≡ Stranded at)

abbrev pub AcknowledgeThen : Type 0
AcknowledgeThen = (T : Setup) (at : ℕ) (c : Record) (m : Me Record) (s : ℕ) (w : Me Record) (t : ℕ) → c.side.hold ≡ Free
    → c.side.post ≡ Offering at → IsAtSend T c → AcknowledgeNext T at c m s w t
