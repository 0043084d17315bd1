use Rattle.std.proofs.Common.{arith}
use Rattle.std.proofs.lemmas.List.{map_push}
use Rattle.rgo_typing_rules.proofs.Refusals.{refusals}
use Rattle.rgo_typing_statements.proofs.simple.assign.Goals as goal

pub returns-in_err-left : goal.returns-in_err-left
returns-in_err-left c = grind (arith, refusals, map_push)

pub returns-in_err-right : goal.returns-in_err-right
returns-in_err-right c = grind (arith, refusals, map_push)

pub returns-in_err-check_assignment : goal.returns-in_err-check_assignment
returns-in_err-check_assignment c = grind (arith, refusals, map_push)

pub returns : goal.returns
returns c = grind (arith, refusals, map_push)
