use Rattle.rgo_interpreter.proofs.Ready.{some_pick, some_step}
use Rattle.rgo_interpreter.proofs.deadlocks.is_deadlock.Goals as goal

pub returns-then-not-all_wait : goal.returns-then-not-all_wait
returns-then-not-all_wait g c =
    some_step (g.M.Machine.machine c.args.machine.now) c.args.state.now (rw c.if-not-all_wait.true at
    c.all_wait.ensures)

pub returns-in-Some : goal.returns-in-Some
returns-in-Some g c =
    some_pick (g.M.Machine.machine c.args.machine.now) c.args.state.now c.in-Some.field-0.0 c.in-Some.field-0.1
    (rw c.in-Some.is at c.in_ok-find_meeting.ensures)
