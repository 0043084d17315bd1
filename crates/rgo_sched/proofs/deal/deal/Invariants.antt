use Rattle.std.proofs.Common.{◌≡◌, ℕ, ◌<◌, ◌≤◌, length, drop, vec_capacity}
use Rattle.rgo_sched.specs.Accounts.{total_weight}
use Rattle.rgo_sched.specs.Crew.{Every, IsCrew, WorkerIsReady, put_by}
use Rattle.rgo_sched.specs.Positions.{only}
use Rattle.std.specs.Prelude.{reverse}
use Rattle.rgo_sched.proofs.CrewLemmas.{Each}
use Rattle.rgo_sched.proofs.DealLemmas.{Dealt}
use Rattle.rgo_sched.proofs.deal.deal.Given as goal

abbrev pub invariant-loop-at : goal.invariant-loop-at
invariant-loop-at g l = record {
  rest : reverse l.tasks.items ≡ drop l.at g.B.Before.tasks;
  room : vec_capacity l.tasks ≡ vec_capacity l.fn.tasks;
  crew : IsCrew l.fn.stealers (λ _. 0) l.crew;
  each : Every (WorkerIsReady (length l.fn.stealers)) l.crew;
  dealt : Each (Dealt (length g.B.Before.tasks) (length l.fn.stealers) l.at) l.crew;
  puts : (k : ℕ) → k < l.at → 1 ≤ total_weight (put_by (only k)) l.crew;
}
