-- Runs that meet their definitions, and some that do not.
use Rattle.std.specs.Prelude.{◌≡◌, ℕ, List, [], ◌∷◌, Option, Some, None}
use Rattle.rgo_sound.specs.Code.Checked.{IsChecked}
use Rattle.rgo_sound.specs.Code.Code.{Code}
use Rattle.rgo_sound.specs.Code.NameRules.{Ascends}
use Rattle.rgo_sound.specs.Machine.declared.ends.RunEnd.{RunEnd}
use Rattle.rgo_sound.specs.Machine.declared.ends.RunEnd.TheVariants.{Deadlock, NoMemory, StepsSpent}
use Rattle.rgo_sound.specs.Machine.declared.limits.Limits.{Limits}
use Rattle.rgo_sound.specs.Machine.declared.limits.Sizes.{Sizes}
use Rattle.rgo_sound.specs.RegionMachine.Counts.{Counts, counts_of}
use Rattle.rgo_sound.specs.RegionMachine.Machine.{region_start}
use Rattle.rgo_sound.specs.RegionMachine.Room.{StateFitsIn}
use Rattle.rgo_sound.specs.Tac.Tac.{TacState}
use Rattle.rgo_sound.specs.RegionRuns.{CodeRuns, RegionRun}
use Rattle.rgo_table_runs.specs.claims.TableRuns.{TableRun}

pub record ClaimExamples : Type 0 where
  -- memory ran out before the first step
  pub none_yet : (code : Code) (sizes : Sizes) (limits : Limits) → TableRun code sizes limits NoMemory (counts_of (region_start code)) (Some []) (Some [])
  -- it has lost what had been given out before
  pub lost : (code : Code) (sizes : Sizes) (limits : Limits) (tally : Counts) (b : ℕ)
      → TableRun code sizes limits Deadlock tally (Some (b ∷ [])) (Some []) → ⊥
  -- the limit of steps had been reached when it was last tested
  pub tested_late : (code : Code) (sizes : Sizes) (limits : Limits) (tally : Counts) (old new : Option (List ℕ))
      (t : TableRun code sizes limits StepsSpent tally old new) → limits.steps ≡ 0 → t.tested ≡ 1 → ⊥
  -- in the end more pages are in use, or more regions live, than there may be
  pub crowded : (code : Code) (sizes : Sizes) (limits : Limits) (end : RunEnd) (tally : Counts) (old new : Option (List ℕ))
      (t : TableRun code sizes limits end tally old new) → (StateFitsIn sizes t.last → ⊥) → ⊥
  pub claimed : (code : Code) (sizes : Sizes) (limits : Limits) → IsChecked code → Ascends code
      → CodeRuns code sizes limits NoMemory (counts_of (region_start code)) None None
  -- the steps that followed its end have no more room than those before
  pub outgrown : (code : Code) (sizes : Sizes) (end : RunEnd) (t : TacState) (r : RegionRun code sizes end t) → (StateFitsIn sizes r.last → ⊥) → ⊥
