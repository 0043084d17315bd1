use Rattle.std.proofs.Common.{arith}
use Rattle.rgo_typing_statements.proofs.Trees.{stmts}
use Rattle.rgo_types.proofs.nested.if_of.Goals as goal

pub returns-then-has_other : goal.returns-then-has_other
returns-then-has_other c = grind (arith, stmts)

pub returns-else-has_other : goal.returns-else-has_other
returns-else-has_other c = grind (arith, stmts)
