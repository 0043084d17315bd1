-- What the run is that explains a closed table.
use Rattle.std.specs.Prelude.{◌≡◌, ℕ, List, ◌++◌, Option, map}
use Rattle.rgo_core.specs.Core.{Setup}
use Rattle.rgo_core.specs.Records.{Drawn, Record}
use Rattle.rgo_core.specs.Rule.Lists.{flattened}
use Rattle.rgo_core.specs.Rule.Views.{Rows}
use Rattle.rgo_core.specs.Rule.declared.accesses.View.{View}
use Rattle.rgo_core_steps.specs.Outcomes.{ClosesTable}
use Rattle.rgo_sound.specs.Machine.declared.ends.RunEnd.{RunEnd}
use Rattle.rgo_sound.specs.RegionMachine.Machine.{Event}
use Rattle.rgo_sound.specs.RegionMachine.States.{Mark, RegionState}
use Rattle.rgo_sound.specs.RegionRuns.{CodeRuns}
use Rattle.rgo_table_runs.specs.claims.TableRuns.{TableRun}
use Rattle.rgo_table_runs.specs.closing.Ends.{TableRunEnds, GaveOut, IsFirst}
use Rattle.rgo_table_runs.specs.closing.Prints.{TicketsInOrder}
use Rattle.rgo_table_runs.specs.closing.Rows.{AreAll, all_shares}

module _ {T : Setup} {words : List ℕ} {v : View Record} where
  -- the run that explains the words of a closed table, and the state to which it has led
  abbrev pub whole_run : ClosesTable T words v → List Event
  whole_run e = flattened e.account.gains

  abbrev pub last_state : ClosesTable T words v → RegionState
  last_state e = e.account.explains.0

-- What a driver has when all goroutines are retired and the table is closed: their records; the prints that it has given out; which
-- end mark was set; and why it says that the run has ended so.
pub record HasClosed (T : Setup) (words : List ℕ) (v : View Record) (e : ClosesTable T words v) (rows : Rows Record) (given : List Drawn)
    (first : Option Mark) (tested : ℕ) (end : RunEnd) (old new : Option (List ℕ)) : Type 0 where
  pub all : AreAll v rows
  pub order : TicketsInOrder rows given
  pub is_first : IsFirst rows first
  pub ends : TableRunEnds T.code T.sizes T.limits tested (all_shares rows).steps (last_state e) first end
  pub gave : GaveOut rows given end old new

-- Then the run that explains the table is a run of the program that has ended so.
abbrev pub ClosedRuns : Type 0
ClosedRuns = (T : Setup) (words : List ℕ) (v : View Record) (e : ClosesTable T words v) (rows : Rows Record) (given : List Drawn)
    (first : Option Mark) (tested : ℕ) (end : RunEnd) (old new : Option (List ℕ)) → HasClosed T words v e rows given first tested end old new
    → (t : TableRun T.code T.sizes T.limits end (all_shares rows) old new) × (t.events ++ t.late ≡ whole_run e) × (t.last ≡ last_state e)

-- That is what the claim on the whole program says of the code.
abbrev pub ClosedClaims : Type 0
ClosedClaims = (T : Setup) (words : List ℕ) (v : View Record) (e : ClosesTable T words v) (rows : Rows Record) (given : List Drawn)
    (first : Option Mark) (tested : ℕ) (end : RunEnd) (old new : Option (List ℕ)) → HasClosed T words v e rows given first tested end old new
    → CodeRuns T.code T.sizes T.limits end (all_shares rows) old new

-- Those are the records of all goroutines, by their numbers.
abbrev pub RowsAreAll : Type 0
RowsAreAll = (T : Setup) (words : List ℕ) (v : View Record) (e : ClosesTable T words v) (rows : Rows Record) → AreAll v rows
    → e.recs ≡ map (λ (r : ℕ × Record). r.1) rows
