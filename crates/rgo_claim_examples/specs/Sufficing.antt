-- Programs of which no run reaches a limit or lacks room, and programs of which some run does. `Suffices` is the premise under which
-- `rgo` promises a run to the program's own end, so it must hold of ordinary programs.
use Rattle.std.specs.Prelude.{ℕ}
use Rattle.rgo_typed.specs.Tree.{Typed}
use Rattle.rgo_tac.specs.Code.{Tac}
use Rattle.rgo_lower.specs.Lowered.{IsLowered}
use Rattle.rgo_command_line.specs.Limits.{default_options}
use Rattle.rgo_command_line.specs.declared.limits.RunOptions.{RunOptions}
use Rattle.rgo_run.specs.Headline.{Suffices}
use Rattle.rgo_run.specs.Runs.{of_program}
use Rattle.rgo_claim_examples.specs.Programs.{one_object, linked_list, binary_tree, sender, endless, no_object}

-- the program has code, and the default options of `run` suffice for it
pub record SufficesByDefault (program : Typed) : Type 0 where
  pub code : Tac
  pub lowered : IsLowered program code
  pub suffices : Suffices default_options (of_program program)

abbrev pub with_limits : (steps goroutines : ℕ) → RunOptions
with_limits steps goroutines =
    record default_options { limits = record { steps = steps; goroutines = goroutines } }

abbrev pub without_room : RunOptions
without_room = record default_options { sizes = record { page_words = 0; pages = 0; regions = 0 } }

-- An object, a list that is built and summed, a tree that is built and counted, and a goroutine that sends: for each the
-- default options suffice, so `run` must end with 0, 2 or 3, or with 11.
pub record ProgramsSuffice : Type 0 where
  pub object : SufficesByDefault one_object
  pub list : SufficesByDefault linked_list
  pub tree : SufficesByDefault binary_tree
  pub goroutines : SufficesByDefault sender
  -- a program that makes no object needs neither a page nor a region
  pub no_room : Suffices without_room (of_program no_object)
  -- no options suffice for a program that never ends
  pub never_ends : (options : RunOptions) → Suffices options (of_program endless) → ⊥
  -- a run of five steps reaches a limit of four, and one with two goroutines reaches a limit of one
  pub too_few_steps : Suffices (with_limits 4 1) (of_program one_object) → ⊥
  pub too_few_goroutines : Suffices (with_limits 1000 1) (of_program sender) → ⊥
