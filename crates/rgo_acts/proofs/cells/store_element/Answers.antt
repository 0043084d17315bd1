use Rattle.std.proofs.Common.{[]}
use Rattle.rgo_acts.proofs.before.Instructions.{reads_it, third_in}
use Rattle.rgo_acts.proofs.before.Measuring.{element_stores, store_traps_at, then_acted}
use Rattle.rgo_acts.proofs.cells.store_element.Goals as goal

pub word-value-requires : goal.word-value-requires
word-value-requires g c =
    reads_it c.args.run.now c.element.new.actor c.args.next.now c.in-Some.ensures.measured.before _ _ _ c.requires.is c.args.value
    (third_in c.args.slice c.args.index c.args.value [])

pub put-requires-clause-stores : goal.put-requires-clause-stores
put-requires-clause-stores g c =
    element_stores c.args.run.now c.args.actor.now c.element.new.actor c.args.next.now c.args.slice c.args.index c.args.value c.in-Some.word
    c.requires.is c.in-Some.ensures c.word-value.result c.word-value.ensures

pub returns-in-Some : goal.returns-in-Some
returns-in-Some g c =
    then_acted c.args.run.now c.args.actor.now c.element.new.actor c.args.next.now c.args.slice c.args.index c.put.new.actor
    c.in-Some.ensures.measured c.put.ensures

pub returns-in-None : goal.returns-in-None
returns-in-None g c =
    store_traps_at c.args.run.now c.args.actor.now c.element.new.actor c.args.next.now c.args.slice c.args.index c.args.value c.requires.is
    c.in-None.ensures
