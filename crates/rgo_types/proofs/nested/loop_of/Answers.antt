use Rattle.std.proofs.Common.{arith}
use Rattle.rgo_typing_statements.proofs.Trees.{stmts}
use Rattle.rgo_types.proofs.nested.loop_of.Goals as goal

pub returns : goal.returns
returns c = grind (arith, stmts)
