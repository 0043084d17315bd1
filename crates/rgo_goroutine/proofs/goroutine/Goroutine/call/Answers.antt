use Rattle.std.proofs.Common.{arith, subst}
use Rattle.rgo_acts.specs.Locals.{HasNoCall}
use Rattle.rgo_goroutine.proofs.Concluding.{counted, ended_then, made, only_told}
use Rattle.rgo_goroutine.proofs.goroutine.Goroutine.call.Goals as goal

pub returns-in-Ok : goal.returns-in-Ok
returns-in-Ok c =
    made c.args.run.now c.args.self.now c.call.new.actor c.args.turning.now c.count.new.self c.requires.can.at.goes
    c.requires.can.noted 1 0 c.in-Ok.ensures.acted
    (counted c.args.turning.now c.count.new.self 1 c.requires.can.at.some c.count.ensures) (omega arith) (omega arith)

pub stop-requires-clause-cause : goal.stop-requires-clause-cause
stop-requires-clause-cause c =
    (subst (HasNoCall c.args.run.now c.args.self.now.actor c.call.new.actor) c.in-Err-TooDeep.field-0-is c.in-Err-TooDeep.ensures.acted).1

pub returns-in-Err-TooDeep : goal.returns-in-Err-TooDeep
returns-in-Err-TooDeep c =
    ended_then c.args.run.now c.args.self.now c.stop.new.self c.args.turning.now c.move_on.new.self c.requires.can.at.goes
    c.requires.can.noted c.call.new.actor 0 c.stop.result
    (subst (HasNoCall c.args.run.now c.args.self.now.actor c.call.new.actor) c.in-Err-TooDeep.field-0-is c.in-Err-TooDeep.ensures.acted).0
    c.stop.ensures (only_told c.args.turning.now c.move_on.new.self c.move_on.ensures)
