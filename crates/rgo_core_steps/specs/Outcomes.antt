-- What the words of a table and the records of its goroutines show of the run: which goroutine has ended it, and what it has printed. A
-- driver learns both from records, since no goroutine reports them while it runs.
use Rattle.std.specs.Prelude.{◌≡◌, ◌≤◌, ◌<◌, ◌^◌, ℕ, false, List, [], ◌∷◌, Some, map, slice_get, slice_index}
use mathlib.Core.Logic.{◌↔◌}
use Rattle.rgo_sound.specs.Code.Checked.{IsChecked}
use Rattle.rgo_sound.specs.Code.NameRules.{Ascends}
use Rattle.rgo_core.specs.Frames.shown.Constants.{ConstantsFit}
use Rattle.rgo_core.specs.Memory.Words.{clock_at, count_at, head_at, made_at, next_at, state_at}
use Rattle.rgo_core.specs.Rule.Lists.{flattened}
use Rattle.rgo_core.specs.Rule.Rule.{Closing}
use Rattle.rgo_core.specs.Rule.Views.{HasRow}
use Rattle.rgo_core.specs.Rule.declared.accesses.View.{View}
use Rattle.rgo_sound.specs.Machine.Limits.{most_goroutines}
use Rattle.rgo_sound.specs.RegionMachine.Counts.{counts_of}
use Rattle.rgo_sound.specs.RegionMachine.Machine.{Event, region_start}
use Rattle.rgo_sound.specs.RegionMachine.States.{Mark, RegionState}
use Rattle.rgo_core.specs.runs.Causes.{IsCause}
use Rattle.rgo_core.specs.Core.{Core, CoreAt, Setup, layout}
use Rattle.rgo_core.specs.runs.Opening.{first_of, opening_table}
use Rattle.rgo_core.specs.Records.{Drawn, Record, accesses, all_counted, clock_of}
use Rattle.rgo_core.specs.runs.Runs.{Marked, limited_run}

-- ---- the end

-- goroutine g was the first to set the end mark, to this one
abbrev pub HasSet : List Record → (g : ℕ) → Mark → Type 0
HasSet recs g mark = (c : Record) × (slice_get recs g ≡ Some c) × (c.clock.first ≡ Some mark)

-- At most one goroutine has ended the run. The clock shows whether one has, and the run ended for the reason in its record.
pub record EndsOnce (clock : ℕ) (recs : List Record) (s : RegionState) : Type 0 where
  -- the bit alone does not show why: that is in the record of the goroutine that has set it
  pub shown : (2 ^ 63 ≤ clock) ↔ ((g : ℕ) × (mark : Mark) × HasSet recs g mark)
  pub one : (g h : ℕ) (mark other : Mark) → HasSet recs g mark → HasSet recs h other → (g ≡ h) × (mark ≡ other)
  pub its : (g : ℕ) (mark : Mark) → HasSet recs g mark → s.mark ≡ Some mark

-- ---- the print

-- goroutine g has drawn d as its i-th ticket
abbrev pub HasDrawnAt : List Record → (g i : ℕ) → Drawn → Type 0
HasDrawnAt recs g i d = (c : Record) × (slice_get recs g ≡ Some c) × (slice_get c.clock.prints i ≡ Some d)

-- The print is these pieces, in the order of their tickets: all that were drawn before the run ended, and no others. So sorting the tickets
-- of all records gives the print.
pub record PrintsInOrder (recs : List Record) (printed : List ℕ) : Type 0 where
  pub pieces : List (List ℕ)
  pub is : printed ≡ flattened pieces
  pub drawn : (t : ℕ) (bytes : List ℕ) → slice_get pieces t ≡ Some bytes
      → (g i : ℕ) × HasDrawnAt recs g i (record { ticket = t; bytes = bytes; is_void = false })
  -- no piece is lost
  pub kept : (g i : ℕ) (d : Drawn) → HasDrawnAt recs g i d → d.is_void ≡ false → slice_get pieces d.ticket ≡ Some d.bytes
  -- no two pieces have the same ticket
  pub one : (g h i j : ℕ) (d e : Drawn) → HasDrawnAt recs g i d → HasDrawnAt recs h j e → d.ticket ≡ e.ticket → (g ≡ h) × (i ≡ j)

-- ---- a closed table

-- the run to which the words and records of a table have led
pub record TableOutcome (T : Setup) (words : List ℕ) (recs : List Record) : Type 0 where
  pub events : List Event
  pub s : RegionState
  pub leads : limited_run T.code T.sizes.page_words T.limits events ≡ Some s
  pub end : EndsOnce (slice_index words clock_at) recs s
  -- the cause of the end held before the step that ended the run
  pub cause : (mark : Mark) → s.mark ≡ Some mark
      → Marked T.code T.sizes.page_words T.limits (IsCause T.code T.sizes T.limits) events mark s.plain.printed
  pub print : PrintsInOrder recs s.plain.printed
  pub counts : counts_of s ≡ all_counted (map clock_of recs)

-- one run explains the words of a table that was closed, and leads to these records
abbrev pub ClosesTable : (T : Setup) (words : List ℕ) (v : View Record) → Type 0
ClosesTable T words v = Closing accesses (Core T) (opening_table T) words v

abbrev pub OutcomeLaw : Type 0
OutcomeLaw = (T : Setup) (words : List ℕ) (v : View Record) (end : ClosesTable T words v) → TableOutcome T words end.recs

-- The view has the record of `main`, and with each record those of the goroutines that it has started. A driver can test this.
pub record HasFamily (v : View Record) : Type 0 where
  pub main : (c : Record) × HasRow v.records 0 c
  pub children : (g h i : ℕ) (c : Record) → HasRow v.records g c → slice_get c.clock.children i ≡ Some h
      → (d : Record) × HasRow v.records h d

-- such a view has the record of every goroutine
abbrev pub FamilyLaw : Type 0
FamilyLaw = (T : Setup) (words : List ℕ) (v : View Record) (end : ClosesTable T words v) → HasFamily v
    → (g : ℕ) (c : Record) → slice_get end.recs g ≡ Some c → HasRow v.records g c

-- ---- a new table

-- No ticket is drawn, `main` is counted, no page is claimed and no slot is in use except Global's.
pub record OpensWith (T : Setup) (words : List ℕ) : Type 0 where
  pub clock : slice_index words clock_at ≡ 0
  pub made : slice_index words made_at ≡ 1
  pub states : (p : ℕ) → p < T.sizes.pages → slice_index words (state_at (layout T) p) ≡ 0
  pub nexts : (p : ℕ) → p < T.sizes.pages → slice_index words (next_at (layout T) p) ≡ 0
  pub counts : (r : ℕ) → r < T.sizes.regions → slice_index words (count_at (layout T) r) ≡ 0
  pub global : slice_index words (count_at (layout T) T.sizes.regions) ≡ 2
  pub heads : (r : ℕ) → r ≤ T.sizes.regions → slice_index words (head_at (layout T) r) ≡ 0

-- these words and the record of `main` show the first state of the region machine
abbrev pub FirstLaw : Type 0
FirstLaw = (T : Setup) → IsChecked T.code → Ascends T.code → ConstantsFit T.code → most_goroutines T.limits ≤ 1000000
    → OpensWith T (opening_table T) × CoreAt T (opening_table T) (first_of T.code ∷ []) [] (region_start T.code)
