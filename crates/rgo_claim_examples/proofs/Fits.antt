-- Whether every run of some code is short and makes little, found by computation: the tests are written for evaluation, so that a proof
-- about a program is one call of them.
use Rattle.std.proofs.Common.{ℕ, ◌+◌, ◌*◌, max, Bool, ◌&&◌, List, [], ◌∷◌, length}
use Rattle.std.specs.Prelude.{nat_le, nat_lt}
use Rattle.std.specs.List.{list_all}
use Rattle.rgo_memory.specs.Memory.{Object}
use Rattle.rgo_machine.specs.declared.limits.Limits.{Limits}
use Rattle.rgo_machine.specs.declared.limits.Sizes.{Sizes}
use Rattle.rgo_machine.specs.Limits.{deepest}
use Rattle.rgo_tac.specs.Code.{TacFn, Tac}
use Rattle.rgo_tac.specs.Frames.{TacFrame}
use Rattle.rgo_tac.specs.Tac.{TacState, tac, tac_start}
use Rattle.rgo_region_machine.specs.Objects.{object_words}
use Rattle.rgo_claim_examples.proofs.Quiet.{quiet_step}
use Rattle.rgo_claim_examples.proofs.Search.{all_within}

-- no function has more region names than variables, and one for its result
abbrev pub most_variables : List TacFn → ℕ
most_variables [] = 0
most_variables (f ∷ fs) = max (length f.variables + 1) (most_variables fs)

abbrev pub is_shallow : List TacFrame → Bool
is_shallow frames = nat_lt (length frames) deepest

abbrev pub is_small : Sizes → Object → Bool
is_small sizes object = nat_le (object_words object) sizes.page_words

-- whether a state has room, in a run of at most this number of steps
abbrev pub has_room : Limits → Sizes → (steps names : ℕ) → TacState → Bool
has_room limits sizes steps names s =
    list_all is_shallow s.goroutines
    && (nat_lt (length s.goroutines) limits.goroutines
    && (nat_le (length s.memory.heap + length s.goroutines) sizes.pages
    && (list_all (is_small sizes) s.memory.heap
    && nat_le ((steps + length s.goroutines) * names) sizes.regions)))

-- whether every state of every run has room, and every run has fewer steps than this
abbrev pub fits : Limits → Sizes → (steps : ℕ) → Tac → Bool
fits limits sizes steps code =
    nat_le steps limits.steps
    && all_within (quiet_step (tac code)) (has_room limits sizes steps (most_variables code.functions)) steps
    (tac_start code)
