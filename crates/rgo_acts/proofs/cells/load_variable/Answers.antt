use Rattle.rgo_acts.proofs.accesses.Fields.{variable_loads, variable_there}
use Rattle.rgo_acts.proofs.cells.load_variable.Goals as goal

pub variable-requires : goal.variable-requires
variable-requires g c =
    variable_there c.args.run.now c.args.actor.now c.args.next.now c.requires.before c.args.to c.args.variable c.requires.is

pub take-requires-clause-loads : goal.take-requires-clause-loads
take-requires-clause-loads g c =
    variable_loads c.args.run.now c.args.actor.now c.args.next.now c.requires.before c.args.to c.args.variable c.requires.is
    c.variable.result c.variable.ensures.at
