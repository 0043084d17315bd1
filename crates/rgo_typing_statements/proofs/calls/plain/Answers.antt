use Rattle.std.proofs.Common.{arith}
use Rattle.std.proofs.lemmas.List.{map_push}
use Rattle.rgo_typing_rules.proofs.Refusals.{refusals}
use Rattle.rgo_typing_statements.proofs.calls.plain.Goals as goal

pub returns-in_err-stmt : goal.returns-in_err-stmt
returns-in_err-stmt c = grind (arith, refusals, map_push)

pub returns-in_err-check_alone : goal.returns-in_err-check_alone
returns-in_err-check_alone c = grind (arith, refusals, map_push)

pub returns : goal.returns
returns c = grind (arith, refusals, map_push)
