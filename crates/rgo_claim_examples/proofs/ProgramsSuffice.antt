-- The programs for which the default options suffice, by the search over all runs, and those for which some options do not, by one run
-- that meets a limit.
use Rattle.std.proofs.Common.{◌≡◌, ℕ, zero, suc, max, true, ◌&&◌, List, [], ◌∷◌, length, Some, None, refl, ap}
use Rattle.std.proofs.Common.{◌∙◌, arith, if◌then◌else◌}
use Rattle.std.specs.Prelude.{nat_le, option_and_then}
use Rattle.std.proofs.Math.Nat.{le-max_left}
use Rattle.std.proofs.lemmas.Bool.{le-leb}
use Rattle.rgo_machine.specs.declared.limits.Limits.{Limits}
use Rattle.rgo_machine.specs.declared.picks.Pick.{Pick}
use Rattle.rgo_machine.specs.declared.picks.Pick.TheVariants.{One}
use Rattle.rgo_machine.specs.Limits.{LeadsWithin, limited_step, most_goroutines}
use Rattle.rgo_machine.specs.Runs.{run}
use Rattle.rgo_tac.specs.Tac.{tac, tac_start}
use Rattle.rgo_command_line.specs.Limits.{default_options}
use Rattle.rgo_command_line.specs.declared.limits.RunOptions.{RunOptions}
use Rattle.rgo_run.specs.Headline.{Suffices}
use Rattle.rgo_run.specs.Runs.{of_program}
use Rattle.rgo_claim_examples.specs.Programs.{one_object, linked_list, binary_tree, sender, endless}
use Rattle.rgo_claim_examples.specs.Sufficing.{ProgramsSuffice, with_limits}
use Rattle.rgo_claim_examples.proofs.Codes.{one_object_code, linked_list_code, binary_tree_code, sender_code, endless_code}
use Rattle.rgo_claim_examples.proofs.Enough.{suffices}
use Rattle.rgo_claim_examples.proofs.Fits.{fits}
use Rattle.rgo_claim_examples.proofs.NoRoom.{needs_no_room}
use Rattle.rgo_claim_examples.proofs.Lowered.{one_object_lowered, linked_list_lowered, binary_tree_lowered, sender_lowered}
use Rattle.rgo_claim_examples.proofs.Lowered.{endless_lowered}

-- ---- runs with room, by computation

object_fits : fits default_options.limits default_options.sizes 6 one_object_code ≡ true
object_fits = refl

list_fits : fits default_options.limits default_options.sizes 100 linked_list_code ≡ true
list_fits = refl

tree_fits : fits default_options.limits default_options.sizes 200 binary_tree_code ≡ true
tree_fits = refl

sender_fits : fits default_options.limits default_options.sizes 20 sender_code ≡ true
sender_fits = refl

-- ---- a run without end

abbrev again : ℕ → List Pick
again zero = []
again (suc n) = One 0 ∷ again n

so_many : (n : ℕ) → length (again n) ≡ n
so_many zero = refl
so_many (suc n) = let e = so_many n in omega (arith, e)

module _ (limits : Limits) where
  step_back : limited_step (tac endless_code) limits (tac_start endless_code) (One 0) ≡ Some (tac_start endless_code)
  step_back =
      let room : nat_le 1 (most_goroutines limits) ≡ true =
      le-leb 1 (max 1 limits.goroutines) (le-max_left 1 limits.goroutines) in
      ap (λ b. if b && true then Some (tac_start endless_code) else None) room

  goes_on : (n : ℕ) → LeadsWithin (tac endless_code) limits (tac_start endless_code) (again n) (tac_start endless_code)
  goes_on zero = refl
  goes_on (suc n) =
      ap (option_and_then (λ s. run (limited_step (tac endless_code) limits) s (again n))) step_back ∙ goes_on n

never_ends : (options : RunOptions) → Suffices options (of_program endless) → ⊥
never_ends options enough =
    let many = so_many options.limits.steps in
    let least = le-max_left 1 options.limits.steps in
    enough.steps endless_code endless_lowered 0 (again options.limits.steps) (tac_start endless_code)
    (goes_on options.limits options.limits.steps) (refl, omega (arith, many), omega (arith, least))

-- ---- runs that meet a limit

too_few_steps : Suffices (with_limits 4 1) (of_program one_object) → ⊥
too_few_steps enough =
    enough.steps one_object_code one_object_lowered 0 (One 0 ∷ One 0 ∷ One 0 ∷ One 0 ∷ []) _ refl
    (refl, omega arith, omega arith)

-- `main` is before the start of the other goroutine
too_few_goroutines : Suffices (with_limits 1000 1) (of_program sender) → ⊥
too_few_goroutines enough =
    enough.goroutines sender_code sender_lowered 0 (One 0 ∷ One 0 ∷ One 0 ∷ []) _ refl
    (refl, record { full = refl; goroutine = 0; frame = _; callers = []; frames = refl; starts = tt })

pub programs_suffice : ProgramsSuffice
programs_suffice = record {
  object = record {
    code = one_object_code;
    lowered = one_object_lowered;
    suffices = suffices default_options one_object_code 6 object_fits one_object one_object_lowered;
  };
  list = record {
    code = linked_list_code;
    lowered = linked_list_lowered;
    suffices = suffices default_options linked_list_code 100 list_fits linked_list linked_list_lowered;
  };
  tree = record {
    code = binary_tree_code;
    lowered = binary_tree_lowered;
    suffices = suffices default_options binary_tree_code 200 tree_fits binary_tree binary_tree_lowered;
  };
  goroutines = record {
    code = sender_code;
    lowered = sender_lowered;
    suffices = suffices default_options sender_code 20 sender_fits sender sender_lowered;
  };
  no_room = needs_no_room;
  never_ends = never_ends;
  too_few_steps = too_few_steps;
  too_few_goroutines = too_few_goroutines;
}
