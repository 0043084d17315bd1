-- A run with regions, and what is not a run with regions. The claim says that some run exists; these examples show that not every
-- state, end or tally has one.
use Rattle.std.specs.Prelude.{◌≡◌, ◌≤◌, ◌+◌, ◌*◌, true, false, List, [], ◌∷◌, None, Some, length}
use Rattle.rgo_machine.specs.declared.limits.Sizes.{Sizes}
use Rattle.rgo_machine.specs.declared.picks.End.TheVariants.{Exit}
use Rattle.rgo_machine.specs.declared.limits.Shortage.TheVariants as shortage
use Rattle.rgo_tac.specs.Tac.{TacState}
use Rattle.rgo_code.specs.Code.{Code}
use Rattle.rgo_region_machine.specs.Counts.{Counts, counts_of}
use Rattle.rgo_region_machine.specs.Machine.{Event, region_run}
use Rattle.rgo_region_machine.specs.States.{RegionState}
use Rattle.rgo_machine.specs.declared.ends.RunEnd.{RunEnd}
use Rattle.rgo_machine.specs.declared.ends.RunEnd.TheVariants as run_end
use Rattle.rgo_command_line.specs.Limits.{default_options}
use Rattle.rgo_machine.specs.declared.picks.Pick.TheVariants.{One}
use Rattle.rgo_command_line.specs.declared.limits.RunOptions.{RunOptions}
use Rattle.rgo_run.specs.Calls.{SinkUse}
use Rattle.rgo_run.specs.Runs.{IsOneRun, IsSaid, RunOf, Runnable}
use Rattle.rgo_sound.specs.RegionRuns.{RegionRun}
use Rattle.rgo_sound.specs.Erasure.{picks_of}
use Rattle.rgo_region_machine.specs.declared.tallies.Tally.{Tally}
use Rattle.rgo_claim_examples.specs.CompiledCode.{code_with}
use Rattle.rgo_claim_examples.specs.States.{sizes}

-- the code of `one_object`
abbrev pub code : Code
code = code_with (0 ∷ [])

pub record RegionRunExamples : Type 0 where
  -- it runs to its exit
  pub exits : (t : TacState) × (t.ended ≡ Some Exit) × RegionRun code default_options.sizes (run_end.Ended Exit) t
  -- it needs a region, and no region is allowed
  pub no_region : (t : TacState) × RegionRun code (sizes 16 1 0) (run_end.NoRoom shortage.Regions) t
  -- with the default sizes it never lacks a region
  pub has_region : (t : TacState) → RegionRun code default_options.sizes (run_end.NoRoom shortage.Regions) t → ⊥
  -- in no state does it have more pages or regions than these sizes allow
  pub has_room : (events : List Event) (s : RegionState)
      → region_run code default_options.sizes.page_words events ≡ Some s
      → ((counts_of s).taken ≤ default_options.sizes.pages) × ((counts_of s).made ≤ default_options.sizes.regions)
  -- it never reaches a state with a second goroutine
  pub no_second : (page_sizes : Sizes) (end : RunEnd) (t : TacState) → length t.goroutines ≡ 2
      → RegionRun code page_sizes end t → ⊥
  -- its counts were asked for, and none are reported
  pub unsaid : (made : Counts) → IsSaid true (run_end.Ended Exit) made None → ⊥
  -- they were not asked for, and are reported
  pub unasked : (made : Counts) (tally : Tally) → IsSaid false (run_end.Ended Exit) made (Some tally) → ⊥
  -- after a lack of memory they may be missing
  pub cut : (made : Counts) → IsSaid true run_end.NoMemory made None
  -- it is not the run that took no step
  pub two_runs : (what : Runnable) (options : RunOptions) (end : RunEnd) (out : SinkUse) (r : RunOf what options end out)
      → r.runs.picks ≡ [] → picks_of r.code options.sizes r.regions.events ≡ One 0 ∷ [] → IsOneRun r → ⊥
  -- its limit of instructions was exceeded by 1,000 for each goroutine
  pub overspent : (what : Runnable) (options : RunOptions) (out : SinkUse) (r : RunOf what options run_end.StepsSpent out)
      → (counts_of r.regions.last).steps ≡ options.limits.steps + 1000 * (counts_of r.regions.last).goroutines → IsOneRun r → ⊥
