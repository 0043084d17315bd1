use Rattle.std.proofs.Common.{◌≡◌, ℕ, ◌+◌, ◌-◌, ◌⊎◌, length}
use Rattle.crossbeam_deque.specs.Handles.{worker_view, worker_flavor}
use Rattle.rgo_sched.specs.Accounts.{total_weight}
use Rattle.rgo_sched.specs.Positions.{Filled, only}
use Rattle.rgo_sched.proofs.gather.drain.Given as goal

abbrev pub invariant-loop-queued : goal.invariant-loop-queued
invariant-loop-queued g l = record {
  size : length l.results ≡ length l.fn.results;
  all : (worker_view l.own).parts ≡ 128;
  fifo : worker_flavor l.own ≡ 0;
  put : (worker_view l.own).put ≡ (worker_view l.fn.own).put;
  kept : (k : ℕ) → Filled l.fn.results k → Filled l.results k;
  left : (k : ℕ) → Filled l.results k ⊎ (total_weight (only k) (worker_view l.own).taken ≡ total_weight (only k) (worker_view l.fn.own).taken);
}

abbrev pub decreases-loop-queued : goal.decreases-loop-queued
decreases-loop-queued g l = length (worker_view l.own).put + 1 - length (worker_view l.own).taken
