use Rattle.std.proofs.Common.{arith, refl}
use Rattle.rgo_goroutine.specs.declared.turning.TableTurnEnd.TheVariants as stop
use Rattle.rgo_sound.specs.Machine.declared.limits.Shortage.TheVariants.{Pages}
use Rattle.rgo_goroutine.proofs.Concluding.{counted, ended_then, halted, made, only_told, refused, unmoved}
use Rattle.rgo_goroutine.proofs.goroutine.Goroutine.make.Goals as goal

pub returns-in-Done : goal.returns-in-Done
returns-in-Done g c =
    made c.args.run.now c.args.self.now c.make_object-made.new.actor c.args.turning.now c.count.new.self c.requires.can.at.goes
    c.requires.can.noted 1 0 c.in-Done.ensures
    (counted c.args.turning.now c.count.new.self 1 c.requires.can.at.some c.count.ensures) (omega arith) (omega arith)

pub returns-in-Trap : goal.returns-in-Trap
returns-in-Trap g c =
    ended_then c.args.run.now c.args.self.now c.trap.new.self c.args.turning.now c.count-in-Trap.new.self c.requires.can.at.goes
    c.requires.can.noted c.make_object-made.new.actor 1 c.trap.result c.in-Trap.ensures.0 c.trap.ensures
    (counted c.args.turning.now c.count-in-Trap.new.self 1 c.requires.can.at.some c.count-in-Trap.ensures)

pub returns-in-TooLarge : goal.returns-in-TooLarge
returns-in-TooLarge g c =
    ended_then c.args.run.now c.args.self.now c.stop.new.self c.args.turning.now c.move_on.new.self c.requires.can.at.goes
    c.requires.can.noted c.make_object-made.new.actor 0 c.stop.result c.in-TooLarge.ensures.acted c.stop.ensures
    (only_told c.args.turning.now c.move_on.new.self c.move_on.ensures)

pub returns-in-Short : goal.returns-in-Short
returns-in-Short g c =
    unmoved c.args.run.now c.args.self.now c.make_object-made.new.actor c.args.turning.now c.args.turning.now c.requires.can.at.goes
    c.requires.can.noted (stop.Short Pages) c.in-Short.ensures.acted c.in-Short.ensures.unmoved
    (c.in-Short.ensures.acted.went.first, c.in-Short.ensures.lacks) refl

pub returns-in-Partly : goal.returns-in-Partly
returns-in-Partly g c =
    halted c.args.run.now c.args.self.now c.make_object-made.new.actor c.args.turning.now c.move_on-in-Partly.new.self c.requires.can.at.goes
    c.requires.can.noted (stop.Short Pages) c.in-Partly.ensures.acted
    (only_told c.args.turning.now c.move_on-in-Partly.new.self c.move_on-in-Partly.ensures)
    (c.in-Partly.ensures.acted.went.first, c.in-Partly.ensures.lacks)

pub returns-in-NoMemory : goal.returns-in-NoMemory
returns-in-NoMemory g c =
    refused c.args.run.now c.args.self.now c.make_object-made.new.actor c.args.turning.now c.move_on-in-NoMemory.new.self
    c.requires.can.at.goes c.requires.can.noted c.in-NoMemory.ensures.acted
    (only_told c.args.turning.now c.move_on-in-NoMemory.new.self c.move_on-in-NoMemory.ensures)
