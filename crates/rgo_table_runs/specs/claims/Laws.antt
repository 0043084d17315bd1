-- How the claim on the whole program follows from the run that explains a table.
use Rattle.std.specs.Prelude.{◌≡◌, ℕ, List, Option}
use Rattle.rgo_sound.specs.Code.Checked.{IsChecked}
use Rattle.rgo_sound.specs.Code.Code.{Code}
use Rattle.rgo_sound.specs.Code.Erasure.{erased}
use Rattle.rgo_sound.specs.Code.NameRules.{Ascends}
use Rattle.rgo_sound.specs.Machine.Ends.{RunsFreely}
use Rattle.rgo_sound.specs.Machine.declared.ends.RunEnd.{RunEnd}
use Rattle.rgo_sound.specs.Machine.declared.limits.Limits.{Limits}
use Rattle.rgo_sound.specs.Machine.declared.limits.Sizes.{Sizes}
use Rattle.rgo_sound.specs.RegionMachine.Counts.{Counts}
use Rattle.rgo_sound.specs.Tac.Tac.{tac, tac_start}
use Rattle.rgo_sound.specs.RegionRuns.{CodeRuns}
use Rattle.rgo_sound.specs.Erasure.{picks_of}
use Rattle.rgo_table_runs.specs.claims.TableRuns.{TableRun}

-- It is a run of the three-address code, with the picks of its events.
abbrev pub RunsAsCode : Type 0
RunsAsCode = (code : Code) (sizes : Sizes) (limits : Limits) (end : RunEnd) (tally : Counts) (old new : Option (List ℕ))
    (t : TableRun code sizes limits end tally old new)
    → (r : RunsFreely (tac (erased code)) limits (tac_start (erased code)) end old new)
    × (r.picks ≡ picks_of code sizes t.events) × (r.state ≡ t.plain)

-- For checked code it is what the claim says.
abbrev pub GivesClaim : Type 0
GivesClaim = (code : Code) (sizes : Sizes) (limits : Limits) (end : RunEnd) (tally : Counts) (old new : Option (List ℕ))
    → IsChecked code → Ascends code → TableRun code sizes limits end tally old new
    → CodeRuns code sizes limits end tally old new
