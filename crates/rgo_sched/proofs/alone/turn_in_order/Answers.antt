use Rattle.std.proofs.Common.{arith}
use Rattle.rgo_sched.proofs.RoundLemmas.{round_starts, round_goes_on, round_ends}
use Rattle.rgo_sched.proofs.alone.turn_in_order.Goals as goal

pub loop-task-init : goal.loop-task-init
loop-task-init g c = round_starts g.T.Task.goes c.args.tasks.now

pub loop-task-preserved : goal.loop-task-preserved
loop-task-preserved g c =
    round_goes_on g.T.Task.goes c.loop-task.task-index c.args.tasks.now c.loop-task.task-items c.loop-task.went
    c.task-item.result c.turn-went.new.self c.turn-went.result (omega arith) c.turn-went.ensures c.loop-task.invariant

pub returns : goal.returns
returns g c =
    round_ends g.T.Task.goes c.loop-task.task-index c.args.tasks.now c.loop-task.task-items c.loop-task.went
    c.loop-task-test.false c.loop-task.invariant
