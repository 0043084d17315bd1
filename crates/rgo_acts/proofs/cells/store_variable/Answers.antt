use Rattle.std.proofs.Common.{[]}
use Rattle.rgo_acts.proofs.before.Instructions.{first_in, reads_it}
use Rattle.rgo_acts.proofs.accesses.Fields.{to_variable_there, variable_stores}
use Rattle.rgo_acts.proofs.cells.store_variable.Goals as goal

pub word-value-requires : goal.word-value-requires
word-value-requires g c =
    reads_it c.args.run.now c.args.actor.now c.args.next.now c.requires.before _ _ _ c.requires.is c.args.from (first_in c.args.from [])

pub variable-requires : goal.variable-requires
variable-requires g c =
    to_variable_there c.args.run.now c.args.actor.now c.args.next.now c.requires.before c.args.variable c.args.from c.requires.is

pub put-requires-clause-stores : goal.put-requires-clause-stores
put-requires-clause-stores g c =
    variable_stores c.args.run.now c.args.actor.now c.args.next.now c.requires.before c.args.variable c.args.from c.requires.is
    c.variable.result c.word-value.result c.word-value.ensures c.variable.ensures.at
