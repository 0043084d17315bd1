use Rattle.rgo_interpreter.proofs.Meeting.{passed_in, passed_past}
use Rattle.rgo_interpreter.proofs.steps.pass_at.Goals as goal

pub returns-in-Some : goal.returns-in-Some
returns-in-Some g c =
    let item = c.in-Some.ensures.item in
    passed_in (g.M.Machine.machine c.args.machine.now) c.args.value c.args.goroutines.now.items c.args.g
    c.in-Some.goroutine.now c.pass.new.goroutine item.3.0 item.1 c.pass.ensures

pub returns-in_default : goal.returns-in_default
returns-in_default g c =
    passed_past (g.M.Machine.machine c.args.machine.now) c.args.value c.args.goroutines.now.items c.args.g
    c.in_default.ensures.item.3
