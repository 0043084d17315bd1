use Rattle.std.proofs.Common.{◌++◌, All, IsPermutation, List, length, map}
use Rattle.rgo_table_runs.specs.Goroutine.declared.goroutine.Goroutine.{Goroutine}
use Rattle.rgo_runtime.specs.Crews.{IsOfCrew, its_goroutine}
use Rattle.rgo_runtime.specs.Leaving.{HaveLeft}
use Rattle.rgo_runtime.specs.Parking.{parked_values}
use Rattle.rgo_runtime.proofs.retiring.retire_queues.Given as goal

-- some have gone
abbrev pub invariant-loop-group : goal.invariant-loop-group
invariant-loop-group l = record {
  gone : List Goroutine;
  are : IsPermutation (map its_goroutine (parked_values l.fn.queues)) (gone ++ map its_goroutine (parked_values l.queues));
  all : All (IsOfCrew l.fn.run (length l.fn.left.shares)) (parked_values l.queues);
  left : HaveLeft l.fn.run.setup gone l.fn.left l.left;
}

abbrev pub decreases-loop-group : goal.decreases-loop-group
decreases-loop-group l = length l.queues
