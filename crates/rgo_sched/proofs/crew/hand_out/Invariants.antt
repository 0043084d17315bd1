use Rattle.std.proofs.Common.{length}
use Rattle.rgo_sched.specs.Crew.{Every, HasSlots, IsCrew}
use Rattle.rgo_sched.proofs.CrewLemmas.{Each, Handed}
use Rattle.rgo_sched.proofs.crew.hand_out.Given as goal

abbrev pub invariant-loop-worker : goal.invariant-loop-worker
invariant-loop-worker g l = record {
  crew : IsCrew l.fn.stealers (λ _. 0) l.crew;
  each : Each (Handed (length l.fn.stealers) l.worker 0) l.crew;
  slots : Every (HasSlots (length g.B.Before.tasks) (length l.fn.stealers)) l.crew;
}

abbrev pub invariant-loop-deque : goal.invariant-loop-deque
invariant-loop-deque g l = record {
  crew : IsCrew l.fn.stealers (λ _. 0) l.crew;
  each : Each (Handed (length l.fn.stealers) l.worker l.deque) l.crew;
  slots : Every (HasSlots (length g.B.Before.tasks) (length l.fn.stealers)) l.crew;
}
