-- Why a goroutine at a channel cannot continue, by what its accesses found. It is blocked only while the words are so; the laws at the end
-- say when.
use Rattle.std.specs.Prelude.{◌≡◌, ◌≢◌, ◌+◌, ◌%◌, ℕ, List, Option, Some, None, slice_index}
use mathlib.Core.Option.{some}
use lib.ListN.{get_elem?}
use Rattle.rgo_core.specs.Channels.Deadlock.{Blocked}
use Rattle.rgo_core.specs.Channels.Records.{Offering}
use Rattle.rgo_core.specs.Rule.declared.accesses.Access.{Access}
use Rattle.rgo_core.specs.Rule.declared.accesses.Kind.TheVariants.{Load, LoadControl, LockChannel}
use Rattle.rgo_core.specs.ties.Moments.{moment}
use Rattle.rgo_core.specs.ties.AtChannels.{IsAtChannel}
use Rattle.rgo_core.specs.Core.{Situation, Setup}
use Rattle.rgo_core.specs.Records.{Record}
use Rattle.rgo_core_steps.specs.Grown.{Found}
use Rattle.rgo_chan.specs.Before.{IsBeforeReceive, IsBeforeSend, ReceivesAt, SendsAt}
use Rattle.rgo_chan.specs.Ready.{IsEmpty, IsBufferFull, IsOffered, IsOpen}

-- Goroutine g, whose record is c, is before an operation that was not ready: a send on a full channel, a receive from an empty one, or
-- either on nil; or its own offer was not taken. `place` is the word of the channel's control, if the channel is not nil.
pub data WaitsAtChannel (T : Setup) (g : ℕ) (c : Record) (es : List Access) (place : Option ℕ) : Type 0 where
  Sends : (at value size n : ℕ) → place ≡ Some at → SendsAt T c at value → Found g es Load (at + 1) size → Found g es LoadControl at n
      → IsBufferFull size n → WaitsAtChannel T g c es place
  Receives : (at size n : ℕ) → place ≡ Some at → ReceivesAt T c at → Found g es Load (at + 1) size → Found g es LoadControl at n
      → IsEmpty size n → WaitsAtChannel T g c es place
  SendsOnNil : (value : ℕ) → place ≡ None → IsBeforeSend T c 0 value → WaitsAtChannel T g c es place
  ReceivesOnNil : place ≡ None → IsBeforeReceive T c 0 → WaitsAtChannel T g c es place
  Offers : (at n : ℕ) → place ≡ Some at → c.side.post ≡ Offering at → Found g es LoadControl at n → IsOpen n → IsOffered n
      → WaitsAtChannel T g c es place

-- Another goroutine was at the channel whose control is word `at`: the control was locked; or it was another one when it was to be
-- locked than when it was loaded.
pub data Loses (T : Setup) (g : ℕ) (c : Record) (es : List Access) (at : ℕ) : Type 0 where
  IsLocked : (n : ℕ) → IsAtChannel T c at → Found g es LoadControl at n → n % 2 ≡ 1 → Loses T g c es at
  HasChanged : (n k : ℕ) → IsAtChannel T c at → Found g es LoadControl at n → Found g es LockChannel at k → k ≢ n → Loses T g c es at

-- ---- what follows where no word has changed since

-- Each access of goroutine g found what its word holds now. A driver proves this by a pass in which no word changed.
abbrev pub FoundNow : List ℕ → ℕ → List Access → Type 0
FoundNow words g es = (i : ℕ) (a : Access) → get_elem? es i ≡ some a → a.by ≡ Some g → a.found ≡ slice_index words a.word

-- then the goroutine is blocked
abbrev pub WaitsBlocked : Type 0
WaitsBlocked = (T : Setup) (g : ℕ) (c : Record) (x : Situation T g c) (es : List Access) (place : Option ℕ) → FoundNow x.words g es
    → WaitsAtChannel T g c es place → Blocked (moment x) g c.side

abbrev pub LosesBlocked : Type 0
LosesBlocked = (T : Setup) (g : ℕ) (c : Record) (x : Situation T g c) (es : List Access) (at : ℕ) → FoundNow x.words g es
    → Loses T g c es at → Blocked (moment x) g c.side
