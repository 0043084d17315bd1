use Rattle.rgo_sched.proofs.RoundLemmas.{RoundBelow}
use Rattle.rgo_sched.proofs.alone.turn_in_order.Given as goal

abbrev pub invariant-loop-task : goal.invariant-loop-task
invariant-loop-task g l = RoundBelow g.T.Task.goes l.task-index l.fn.tasks l.task-items l.went
