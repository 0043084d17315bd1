-- Which records are possible: that of `main` as a table opens, and all that an access or a step without one leaves. Facts about possible
-- records (rgo_core_facts) replace an invariant of the code's own data.
use Rattle.std.specs.Prelude.{◌≤◌, ℕ}
use Rattle.rgo_sound.specs.Code.Checked.{IsChecked}
use Rattle.rgo_sound.specs.Code.NameRules.{Ascends}
use Rattle.rgo_core_frames.specs.shown.Constants.{ConstantsFit}
use Rattle.rgo_core_rule.specs.Steps.{Occurs}
use Rattle.rgo_sound.specs.Machine.Limits.{most_goroutines}
use Rattle.rgo_core.specs.Core.{Core, IsPossible, Setup}
use Rattle.rgo_core.specs.runs.Opening.{first_of}
use Rattle.rgo_core.specs.Records.{Record}
use Rattle.rgo_core.specs.Steps.{IsStill}

abbrev pub FirstPossible : Type 0
FirstPossible = (T : Setup) → IsChecked T.code → Ascends T.code → ConstantsFit T.code
    → most_goroutines T.limits ≤ 1000000 → IsPossible T 0 (first_of T.code)

-- what the rule of the table guarantees of a record after an access
abbrev pub OccursPossible : Type 0
OccursPossible = (T : Setup) (g : ℕ) (c : Record) → Occurs (Core T) g c → IsPossible T g c

abbrev pub StillPossible : Type 0
StillPossible = (T : Setup) (g : ℕ) (c d : Record) → IsPossible T g c → IsStill T g c d → IsPossible T g d

pub record PossibleExamples : Type 0 where
  pub main : FirstPossible
  -- at most 1,000,000 goroutines start
  pub unnumbered : (T : Setup) (c : Record) → IsPossible T 1000000 c → ⊥
