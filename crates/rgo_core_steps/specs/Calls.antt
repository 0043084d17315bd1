-- What calls of several accesses require of their table, and what they have done.
use Rattle.std.specs.Prelude.{◌≡◌, ◌≤◌, ◌+◌, ◌^◌, ℕ, zero, suc, List, length}
use Rattle.atomic_table.specs.Seated.{TableId}
use Rattle.rgo_core.specs.Channels.Records.{ChannelRec as SideRec}
use Rattle.rgo_core.specs.Memory.Words.{all_words}
use Rattle.rgo_core.specs.Rule.Views.{Me, number_of}
use Rattle.rgo_core.specs.Rule.declared.accesses.Access.{Access}
use Rattle.rgo_core.specs.Core.{Setup, layout}
use Rattle.rgo_core.specs.runs.Opening.{first_of}
use Rattle.rgo_core.specs.Records.{ClockRec, Record, accessed, accesses}
use Rattle.rgo_core_steps.specs.Grown.{Made}

-- a seat of this table, which was opened for T
abbrev pub IsSeatIn : Setup → (seat table : TableId) → Type 0
IsSeatIn T seat table = (seat ≡ table) × (table.words ≡ all_words (layout T)) × (all_words (layout T) ≤ 2 ^ 32)

-- The goroutine of seat m has made these accesses, in this order, and no others; each was counted, from s on up to t. Seat w then has
-- its record d. Accesses of other goroutines may lie between any two of them, and are left out.
pub record Did (T : Setup) (m : Me Record) (s : ℕ) (list : ℕ → List Access) (d : Record) (w : Me Record) (t : ℕ) : Type 0 where
  pub made : Made accesses (first_of T.code) m list d w
  pub counted : t ≡ s + length (list (number_of m))

-- ---- records that have made accesses

abbrev pub accessed_by : ℕ → ClockRec → ClockRec
accessed_by zero c = c
accessed_by (suc k) c = accessed (accessed_by k c)

-- after k accesses that are not instructions
abbrev pub accessing : ℕ → Record → Record
accessing k c = record c { clock = accessed_by k c.clock }

-- after k accesses, with this knowledge of channels
abbrev pub waited : ℕ → Record → SideRec → Record
waited k c side = record c { clock = accessed_by k c.clock; side = side }
