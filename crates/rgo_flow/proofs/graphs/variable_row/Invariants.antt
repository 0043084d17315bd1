use Rattle.std.proofs.Common.{◌≡◌, take}
use Rattle.rgo_tac.specs.Flow.{variables_of}
use Rattle.rgo_flow.proofs.graphs.variable_row.Given as goal

abbrev pub invariant-loop-n : goal.invariant-loop-n
invariant-loop-n l = l.row.items ≡ take l.n (variables_of l.variables)
