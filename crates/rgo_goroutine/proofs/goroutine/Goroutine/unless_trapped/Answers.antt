use Rattle.rgo_goroutine.proofs.Concluding.{come_err, come_ok, counted, trap_of}
use Rattle.rgo_goroutine.proofs.goroutine.Goroutine.unless_trapped.Goals as goal

pub trap-requires-clause-traps : goal.trap-requires-clause-traps
trap-requires-clause-traps c =
    let first = c.requires.come.0 in
    (trap_of c.args.run.now first.actor c.args.self.now.actor c.args.done c.in-Err.trap c.in-Err.is c.requires.come.1.did).1

pub returns-in-Ok : goal.returns-in-Ok
returns-in-Ok c first come =
    come_ok c.args.run.now first c.args.self.now c.args.turning.now c.count.new.self c.args.done come c.in-Ok.field-0 c.in-Ok.is
    (counted c.args.turning.now c.count.new.self 1 come.come.some c.count.ensures)

pub returns-in-Err : goal.returns-in-Err
returns-in-Err c first come =
    come_err c.args.run.now first c.args.self.now c.args.turning.now c.count.new.self c.args.done come c.in-Err.trap c.trap.new.self
    c.trap.result c.in-Err.is c.trap.ensures (counted c.args.turning.now c.count.new.self 1 come.come.some c.count.ensures)
