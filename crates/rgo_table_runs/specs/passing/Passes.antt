-- What a driver knows after a pass, when its goroutines are retired and the table is closed. Only then is there one history in which all
-- turns of the pass are found.
use Rattle.std.specs.Prelude.{◌≡◌, ℕ, List, ◌++◌, Option}
use Rattle.rgo_core.specs.Core.{Setup}
use Rattle.rgo_core.specs.Records.{Record}
use Rattle.rgo_core.specs.Rule.Views.{HasRow, Rows}
use Rattle.rgo_core.specs.Rule.declared.accesses.Access.{Access}
use Rattle.rgo_core.specs.Rule.declared.accesses.View.{View}
use Rattle.rgo_sound.specs.Machine.declared.limits.Shortage.{Shortage}
use Rattle.rgo_table_runs.specs.closing.Rows.{AreAll}
use Rattle.rgo_table_runs.specs.passing.Turns.{HasPassed}

-- all goroutines were in the pass; `lack` says what each of them lacks, if anything
pub record AllPassed (T : Setup) (v : View Record) (rows : Rows Record) (before : List Access) (lack : ℕ → Option Shortage) : Type 0 where
  pub all : AreAll v rows
  pub since : List Access
  pub seen : v.seen ≡ before ++ since
  pub each : (g : ℕ) (c : Record) → HasRow rows g c → HasPassed T before v.seen g c (lack g)
