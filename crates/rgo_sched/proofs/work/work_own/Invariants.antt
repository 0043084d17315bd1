use Rattle.std.proofs.Common.{◌≡◌, ℕ, ◌+◌, ◌≤◌, List, ◌++◌, vec_len}
use Rattle.crossbeam_deque.specs.Handles.{SameWorker, worker_view}
use Rattle.rgo_sched.specs.Accounts.{Took}
use Rattle.rgo_sched.proofs.work.work_own.Given as goal

abbrev pub invariant-loop : goal.invariant-loop
invariant-loop g l = record {
  taken : (xs : List ℕ) × Took (worker_view l.fn.own) xs (worker_view l.own) × (l.done.items ≡ l.fn.done.items ++ xs);
  same : SameWorker l.fn.own l.own;
  room : vec_len l.done + l.room ≤ l.done.cap + l.counter;
}
