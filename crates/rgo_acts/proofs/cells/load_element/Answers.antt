use Rattle.rgo_acts.proofs.before.Measuring.{element_loads, load_traps_at, then_acted}
use Rattle.rgo_acts.proofs.cells.load_element.Goals as goal

pub take-requires-clause-loads : goal.take-requires-clause-loads
take-requires-clause-loads g c =
    element_loads c.args.run.now c.args.actor.now c.element.new.actor c.args.next.now c.args.slice c.args.index c.args.to c.in-Some.word
    c.requires.is c.in-Some.ensures

pub returns-in-Some : goal.returns-in-Some
returns-in-Some g c =
    then_acted c.args.run.now c.args.actor.now c.element.new.actor c.args.next.now c.args.slice c.args.index c.take.new.actor
    c.in-Some.ensures.measured c.take.ensures

pub returns-in-None : goal.returns-in-None
returns-in-None g c =
    load_traps_at c.args.run.now c.args.actor.now c.element.new.actor c.args.next.now c.args.slice c.args.index c.args.to c.requires.is
    c.in-None.ensures
