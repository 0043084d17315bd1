-- What a driver has when all goroutines have left and the table is closed. A close lists the records by number (`numbered_rows e.recs`); the
-- driver has those of its seat, in the order in which goroutines left. The laws here say that these are the same goroutines.
use lib.ListN.{get_elem?}
use mathlib.Core.Option.{some}
use Rattle.std.specs.Prelude.{◌≡◌, ◌≤◌, ℕ, true, List, [], ◌∷◌, ◌++◌, Option, None, length, map, ⊤}
use Rattle.rgo_core.specs.Core.{Setup}
use Rattle.rgo_core.specs.Frames.shown.Constants.{ConstantsFit}
use Rattle.rgo_core.specs.runs.Opening.{first_of, opening_table}
use Rattle.rgo_core.specs.Records.{Drawn, Record, drawn_at}
use Rattle.rgo_core.specs.Rule.Views.{view}
use Rattle.rgo_core.specs.Rule.declared.accesses.View.{View}
use Rattle.rgo_core_steps.specs.Outcomes.{ClosesTable}
use Rattle.rgo_sound.specs.Code.Checked.{IsChecked}
use Rattle.rgo_sound.specs.Code.Erasure.{erased}
use Rattle.rgo_sound.specs.Code.NameRules.{Ascends}
use Rattle.rgo_sound.specs.Machine.Limits.{most_goroutines}
use Rattle.rgo_sound.specs.RegionMachine.Counts.{Counts}
use Rattle.rgo_sound.specs.RegionMachine.Room.{LacksIn}
use Rattle.rgo_sound.specs.RegionMachine.States.{Mark}
use Rattle.rgo_sound.specs.Machine.Deadlocks.{IsDeadlock}
use Rattle.rgo_sound.specs.Tac.Tac.{tac}
use Rattle.rgo_table_runs.specs.closing.Ends.{IsFirst}
use Rattle.rgo_table_runs.specs.closing.Gathering.{IsDrawnIn, numbered_rows, sum_of}
use Rattle.rgo_table_runs.specs.closing.Laws.{last_state}
use Rattle.rgo_table_runs.specs.closing.Members.{NoneIsLost, retired}
use Rattle.rgo_table_runs.specs.closing.Prints.{AllGiven, TicketsInOrder}
use Rattle.rgo_table_runs.specs.closing.Rows.{AreAll, all_shares}
use Rattle.rgo_runtime.specs.Crew.{Crew, HasPassedAll, IsRunCrew}
use Rattle.rgo_runtime.specs.Crews.{AreRetired, NobodyIsLost}
use Rattle.rgo_runtime.specs.Leaving.{HaveAllLeft}
use Rattle.rgo_runtime.specs.declared.deadlock.Passed.{Passed}
use Rattle.rgo_runtime.specs.declared.deadlock.Passed.TheVariants.{Lacks, Moved, Still}
use Rattle.rgo_runtime.specs.declared.retiring.Left.{Left}

-- ---- rows, prints and shares

-- tickets from 0 on, in order
abbrev pub AreInOrder : List Drawn → Type 0
AreInOrder given = (i : ℕ) (d : Drawn) → get_elem? given i ≡ some d → d.ticket ≡ i

-- Prints have gone out in order, and none of those that wait is the next one. So if no print was lost, none waits: tickets have no gap.
pub record AreInTurn (given waiting : List Drawn) : Type 0 where
  pub turns : AreInOrder given
  pub next : (d : Drawn) → IsDrawnIn waiting d → d.ticket ≡ length given → ⊥

-- The rows of a closed table, the prints that have gone out, the sum of the shares, and how the run was ended: they are of all goroutines.
-- If memory was refused, there may be prints that have not gone out.
pub record ClosesWith (T : Setup) (words : List ℕ) (v : View Record) (e : ClosesTable T words v) (shares : List Counts) (first : Option Mark)
    (given : List Drawn) : Type 0 where
  pub all : AreAll v (numbered_rows e.recs)
  pub order : TicketsInOrder (numbered_rows e.recs) given
  pub is_first : IsFirst (numbered_rows e.recs) first
  pub sum : sum_of shares ≡ all_shares (numbered_rows e.recs)

-- If nobody is lost, the seat of the driver has the records of all. This holds even if memory was refused.
abbrev pub ClosesAnyway : Type 0
ClosesAnyway = (T : Setup) (words : List ℕ) (v : View Record) (e : ClosesTable T words v) (shares : List Counts) (first : Option Mark)
    (given waiting : List Drawn) → NobodyIsLost (map retired v.records) (given ++ waiting) → AreInOrder given
    → AreRetired v.records shares first → ClosesWith T words v e shares first given

-- If no print is lost either, all prints have gone out.
abbrev pub ClosesWhole : Type 0
ClosesWhole = (T : Setup) (words : List ℕ) (v : View Record) (e : ClosesTable T words v) (shares : List Counts) (first : Option Mark)
    (given waiting : List Drawn) → NoneIsLost (map retired v.records) (given ++ waiting) → AreInTurn given waiting
    → AreRetired v.records shares first → ClosesWith T words v e shares first given × AllGiven (numbered_rows e.recs) given

-- ---- what follows from a pass

-- How the run of a closed table has ended, by what the last pass of its goroutines has come to. `Moved` says nothing: a run does not end
-- for that.
abbrev pub PassReports : (T : Setup) (words : List ℕ) (v : View Record) → ClosesTable T words v → Passed → Type 0
PassReports T words v e Moved = ⊤
PassReports T words v e Still = IsDeadlock (tac (erased T.code)) (last_state e).plain
PassReports T words v e (Lacks why) = LacksIn T.code T.sizes why (last_state e)

-- After a pass in which nothing moved all goroutines leave, the table is closed, and the run is in a deadlock, or lacks what one of them
-- lacked.
abbrev pub PassTells : Type 0
PassTells = (before c : Crew) (passed : Passed) (left : Left) (words : List ℕ) (e : ClosesTable c.run.setup words left.seat.me.0)
    → HasPassedAll before c passed → IsRunCrew c → c.parked ≡ [] → c.born ≡ [] → HaveAllLeft c left → left.is_whole ≡ true
    → AreAll left.seat.me.0 (numbered_rows e.recs) → PassReports c.run.setup words left.seat.me.0 e passed

-- ---- examples

pub record ClosingExamples : Type 0 where
  pub in_turn : AreInTurn (drawn_at 0 (9 ∷ []) ∷ []) (drawn_at 2 (7 ∷ []) ∷ [])
  -- the next one could have gone out
  pub held_back : AreInTurn (drawn_at 0 (9 ∷ []) ∷ []) (drawn_at 1 (7 ∷ []) ∷ []) → ⊥
  pub out_of_turn : AreInTurn (drawn_at 1 (9 ∷ []) ∷ []) [] → ⊥
  -- a table that is closed as it was opened
  pub closed : (T : Setup) → IsChecked T.code → Ascends T.code → ConstantsFit T.code → most_goroutines T.limits ≤ 1000000
      → (e : ClosesTable T (opening_table T) (view ((0, first_of T.code) ∷ []) []))
      × ClosesWith T (opening_table T) (view ((0, first_of T.code) ∷ []) []) e ((first_of T.code).clock.share ∷ []) None []
  -- a print has gone out that nobody has printed
  pub made_up : (T : Setup) (words : List ℕ) (e : ClosesTable T words (view [] [])) (shares : List Counts) (d : Drawn)
      → ClosesWith T words (view [] []) e shares None (d ∷ []) → ⊥
