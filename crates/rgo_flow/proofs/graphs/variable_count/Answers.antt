use Rattle.std.proofs.Common.{arith}
use Rattle.std.proofs.Math.Nat.{le-max_left, le-max_right}
use Rattle.rgo_flow.proofs.graphs.variable_count.Goals as goal

pub returns-clause-read : goal.returns-clause-read
returns-clause-read c = λ i x r.
    omega (arith, c.width.ensures i x r, c.max.ensures, le-max_left c.width.result c.width-2.result)

pub returns-clause-written : goal.returns-clause-written
returns-clause-written c = λ i x r.
    omega (arith, c.width-2.ensures i x r, c.max.ensures, le-max_right c.width.result c.width-2.result)
