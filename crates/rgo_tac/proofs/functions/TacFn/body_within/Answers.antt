use Rattle.std.proofs.Common.{arith}
use Rattle.rgo_tac.proofs.Fitting.{all_wider}
use Rattle.rgo_tac.proofs.functions.TacFn.body_within.Goals as goal

pub returns-clause-fits : goal.returns-clause-fits
returns-clause-fits c =
    let f = c.self.inside in
    all_wider f.body.lists f.body.pieces f.body.instrs f.width c.args.variables
    (omega (arith, c.if-variables-self.false)) c.self.invariant.1
