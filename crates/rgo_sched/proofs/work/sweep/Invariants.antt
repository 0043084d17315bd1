use Rattle.rgo_sched.specs.Permits.{AllFit, TakenWasDone}
use Rattle.rgo_sched.proofs.work.sweep.Given as goal

abbrev pub invariant-loop-other : goal.invariant-loop-other
invariant-loop-other g l = record {
  fit : AllFit l.fn.stealers l.permits;
  moved : TakenWasDone l.fn.permits l.permits l.fn.done.items l.done.items;
}
