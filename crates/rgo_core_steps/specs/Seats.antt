-- What calls state of the seat of a goroutine and of what an access left. T is what the table was made for. A call knows its seat alone:
-- other goroutines are on other seats, and may access the table at any time.
use Rattle.std.specs.Option.{option_map_or}
use Rattle.std.specs.Prelude.{◌≡◌, ◌<◌, ◌≤◌, ℕ, zero, suc, [], ◌∷◌, Some, length}
use Rattle.atomic_table.specs.Seated.{TableId}
use Rattle.rgo_core.specs.Channels.Records.{at_rest}
use Rattle.rgo_core.specs.Frames.steps.Quiet.{quiet}
use Rattle.rgo_core.specs.Frames.Records.{FramesRec as FrameRec}
use Rattle.rgo_core.specs.Rule.Steps.{LeavesOnSeat}
use Rattle.rgo_core.specs.Rule.Views.{IsAlone, Me, Rows, number_of, record_in, record_of}
use Rattle.rgo_core.specs.Rule.declared.accesses.Kind.{Kind}
use Rattle.rgo_sound.specs.Machine.Limits.{deepest}
use Rattle.rgo_core.specs.Core.{IsPossible, Setup}
use Rattle.rgo_core.specs.Laws.{clock_after}
use Rattle.rgo_core.specs.runs.Opening.{first_of}
use Rattle.rgo_core.specs.Records.{Record, accesses}

-- a seat of this table, which has word i
abbrev pub IsSeatOf : (seat table : TableId) → (i : ℕ) → Type 0
IsSeatOf seat table i = (seat ≡ table) × (i < table.words)

-- the seat has the record of one goroutine, and nothing else
abbrev pub HasOne : Setup → Me Record → Type 0
HasOne T m = IsAlone (first_of T.code) m

-- that record
abbrev pub mine : Setup → Me Record → Record
mine T m = record_of (first_of T.code) m

-- it is a possible one: every call of this crate promises it of the record after its access
abbrev pub HasPossible : Setup → Me Record → Type 0
HasPossible T m = IsPossible T (number_of m) (mine T m)

abbrev pub rest_of : Rows Record → Rows Record
rest_of [] = []
rest_of (r ∷ rs) = rs

-- the record beside it
abbrev pub other : Setup → Me Record → Record
other T m = record_in (first_of T.code) (rest_of m.0.records)

-- the seat has that record and the record of goroutine n, which has a larger number, and nothing else
pub record HasTwo (T : Setup) (m : Me Record) (n : ℕ) : Type 0 where
  pub records : m.0.records ≡ (number_of m, mine T m) ∷ (n, other T m) ∷ []
  pub slots : m.1 ≡ []
  -- so a split by number takes the new goroutine's record
  pub later : number_of m < n

-- ---- Local steps: a goroutine makes them without an access, and its record takes them with its next access. A view changes only with
-- an access, so until then only the code has them.

-- after the next local step; the same if the next step is not local
abbrev pub settled_once : Setup → (goroutine : ℕ) → Record → Record
settled_once T g c = option_map_or (λ e. record c { clock = clock_after c.frame.holder.duties c.clock; frame = e }) (quiet T.code g c.frame) c

-- after q of them
abbrev pub settled_by : Setup → (goroutine q : ℕ) → Record → Record
settled_by T g zero c = c
settled_by T g (suc q) c = settled_by T g q (settled_once T g c)

-- the next step is a local one
pub record NextIsLocal (T : Setup) (g : ℕ) (c : Record) : Type 0 where
  -- at a channel no step is local: the record is in the middle of an operation
  pub rests : c.side ≡ at_rest
  pub next : FrameRec
  pub is : quiet T.code g c.frame ≡ Some next
  -- a call at the limit of frames ends the run, with an access
  pub shallow : length next.frames ≤ deepest

-- so are the next q
abbrev pub SettlesBy : Setup → (goroutine q : ℕ) → Record → Type 0
SettlesBy T g zero c = Unit {0}
SettlesBy T g (suc q) c = NextIsLocal T g c × SettlesBy T g q (settled_once T g c)

-- The goroutine of the seat has made q local steps since its last access: this is its record after them.
abbrev pub settled : Setup → (q : ℕ) → Me Record → Record
settled T q m = settled_by T (number_of m) q (mine T m)

abbrev pub Settles : Setup → (q : ℕ) → Me Record → Type 0
Settles T q m = SettlesBy T (number_of m) q (mine T m)

-- ---- accesses

-- The goroutine of seat m has made one access, to word i: it found n there and left f n. `tells` holds of n and of its record after
-- the access, which seat w has. Seat w has seen all accesses up to this one.
abbrev pub HasAccessed : Setup → Kind → (i : ℕ) → (f : ℕ → ℕ) → (tells : ℕ → Record → Type 0) → (m : Me Record) → (n : ℕ) → (w : Me Record)
    → Type 0
HasAccessed T kind i f tells m n w = LeavesOnSeat accesses (first_of T.code) kind i f tells m n w

-- A store of x, which does not show what the word held. The record is d after it.
abbrev pub Stored : Setup → Kind → (i x : ℕ) → (d : Record) → (m w : Me Record) → Type 0
Stored T kind i x d m w = (n : ℕ) × HasAccessed T kind i (λ found. x) (λ found e. e ≡ d) m n w
