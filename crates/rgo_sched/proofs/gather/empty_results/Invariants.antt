use Rattle.std.proofs.Common.{◌≡◌, vec_len, vec_capacity}
use Rattle.rgo_sched.proofs.gather.empty_results.Given as goal

abbrev pub invariant-loop : goal.invariant-loop
invariant-loop g l = (vec_len l.results ≡ l.counter) × (vec_capacity l.results ≡ l.fn.tasks)
