use Rattle.std.proofs.Common.{arith}
use Rattle.rgo_typing_rules.proofs.Refusals.{refusals}
use Rattle.rgo_typing_expressions.proofs.Trees.{exprs}
use Rattle.rgo_typing_statements.proofs.calls.called.Goals as goal

pub returns-in_err-check_callee : goal.returns-in_err-check_callee
returns-in_err-check_callee c = grind (arith, exprs, refusals)

pub returns-in_err-values : goal.returns-in_err-values
returns-in_err-values c = grind (arith, exprs, refusals)

pub returns : goal.returns
returns c = grind (arith, exprs, refusals)
