use Rattle.std.proofs.Common.{◌≡◌, ◌++◌, All, List, length, map, reverse, vec_len}
use Rattle.rgo_table_runs.specs.Goroutine.declared.goroutine.Goroutine.{Goroutine}
use Rattle.rgo_runtime.specs.Crews.{IsOfCrew, its_goroutine}
use Rattle.rgo_runtime.specs.Leaving.{HaveLeft}
use Rattle.rgo_runtime.proofs.retiring.retire_turns.Given as goal

-- some have gone, the last first
abbrev pub invariant-loop-turn : goal.invariant-loop-turn
invariant-loop-turn l = record {
  gone : List Goroutine;
  is : reverse (map its_goroutine l.fn.turns.items) ≡ gone ++ reverse (map its_goroutine l.turns.items);
  all : All (IsOfCrew l.fn.run (length l.fn.left.shares)) l.turns.items;
  left : HaveLeft l.fn.run.setup gone l.fn.left l.left;
}

abbrev pub decreases-loop-turn : goal.decreases-loop-turn
decreases-loop-turn l = vec_len l.turns
