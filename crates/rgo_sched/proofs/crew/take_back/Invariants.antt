use Rattle.std.proofs.Common.{◌≡◌, ℕ, ◌+◌, ◌<◌, ◌≤◌, [], length}
use mathlib.Core.Option.{some}
use lib.ListN.{get_elem?}
use Rattle.rgo_sched.specs.declared.crew.Worker.{Worker}
use Rattle.rgo_sched.specs.Crew.{IsCrew, SameCounts}
use Rattle.rgo_sched.proofs.crew.take_back.Given as goal

abbrev pub invariant-loop-worker : goal.invariant-loop-worker
invariant-loop-worker g l = record {
  crew : IsCrew l.fn.stealers (λ _. 0) l.crew;
  counts : SameCounts l.fn.crew l.crew;
  none : (k : ℕ) (m : Worker _ _) → get_elem? l.crew k ≡ some m → k < l.worker → m.permits.items ≡ [];
}

abbrev pub invariant-loop : goal.invariant-loop
invariant-loop g l = record {
  crew : IsCrew l.fn.stealers (λ _. 0) l.crew;
  counts : SameCounts l.fn.crew l.crew;
  none : (k : ℕ) (m : Worker _ _) → get_elem? l.crew k ≡ some m → k < l.worker → m.permits.items ≡ [];
  here : (k : ℕ) (m : Worker _ _) → get_elem? l.crew k ≡ some m → k ≡ l.worker → length m.permits.items + l.counter ≤ length l.fn.stealers;
}
