use Rattle.rgo_sched.specs.Permits.{AllFit, TakenWasDone}
use Rattle.rgo_sched.proofs.work.steal.Given as goal

abbrev pub invariant-loop : goal.invariant-loop
invariant-loop g l = record {
  fit : AllFit l.fn.stealers l.permits;
  moved : TakenWasDone l.fn.permits l.permits l.fn.done.items l.done.items;
}
