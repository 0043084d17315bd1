use Rattle.std.proofs.Common.{◌-◌, arith}
use Rattle.std.specs.Vec.{vec_len}
use Rattle.rgo_interpreter.proofs.Frames.{enters}
use Rattle.rgo_interpreter.proofs.goroutines.enter.Goals as goal

pub returns-in-Some-clause-enters : goal.returns-in-Some-clause-enters
returns-in-Some-clause-enters g c =
    let item = c.in-Some.ensures.item in
    let v = c.args.frames.now in
    enters (g.M.Machine.machine c.args.machine.now) c.enter.result v.items c.in-Some.frame.now c.enter.new.frame
    (vec_len v - 1) (omega (arith, item.3.0, v.ok.0)) item.1 c.enter.ensures
