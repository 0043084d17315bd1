use Rattle.std.proofs.Common.{◌≡◌, ◌+◌, arith, length}
use Rattle.rgo_runtime.proofs.lists.Queues.{come_over, stay_behind}
use Rattle.rgo_runtime.proofs.queues.move_oldest.Goals as goal

pub returns-clause-into : goal.returns-clause-into
returns-clause-into g c =
    let long : length c.loop-left.into.items ≡ length c.args.into.now.items + c.args.many =
    omega (arith, c.loop-left.invariant.come, c.loop-left-test.false) in
    come_over c.loop-left.into.items c.args.queue.now.items c.args.into.now.items c.loop-left.queue.items c.args.many
    c.loop-left.invariant.whole long

pub returns-clause-left : goal.returns-clause-left
returns-clause-left g c =
    let long : length c.loop-left.into.items ≡ length c.args.into.now.items + c.args.many =
    omega (arith, c.loop-left.invariant.come, c.loop-left-test.false) in
    stay_behind c.loop-left.into.items c.args.queue.now.items c.args.into.now.items c.loop-left.queue.items c.args.many
    c.loop-left.invariant.whole long
