use Rattle.std.proofs.Common.{◌≡◌, ℕ, ◌⊎◌, length, vec_len}
use Rattle.crossbeam_deque.specs.Handles.{worker_view}
use Rattle.rgo_sched.specs.Accounts.{total_weight}
use Rattle.rgo_sched.specs.Positions.{Filled, only}
use Rattle.rgo_sched.proofs.gather.gather.Given as goal

abbrev pub invariant-loop-done : goal.invariant-loop-done
invariant-loop-done g l = record {
  size : length l.results ≡ length l.fn.results;
  kept : (k : ℕ) → Filled l.fn.results k → Filled l.results k;
  left : (k : ℕ) → Filled l.results k ⊎ (total_weight (only k) (worker_view l.fn.worker.own).put ≡ total_weight (only k) (worker_view l.fn.worker.own).taken);
  rest : (k : ℕ) → Filled l.results k ⊎ (total_weight (only k) l.worker.done.items ≡ total_weight (only k) l.fn.worker.done.items);
}

abbrev pub decreases-loop-done : goal.decreases-loop-done
decreases-loop-done g l = vec_len l.worker.done
