use Rattle.std.proofs.Common.{arith}
use Rattle.std.proofs.lemmas.List.{map_push}
use Rattle.rgo_typing_rules.proofs.Refusals.{refusals}
use Rattle.rgo_typing_statements.proofs.simple.send.Goals as goal

pub returns-in_err-channel : goal.returns-in_err-channel
returns-in_err-channel c = grind (arith, refusals, map_push)

pub returns-in_err-value : goal.returns-in_err-value
returns-in_err-value c = grind (arith, refusals, map_push)

pub returns-in_err-check_send : goal.returns-in_err-check_send
returns-in_err-check_send c = grind (arith, refusals, map_push)

pub returns : goal.returns
returns c = grind (arith, refusals, map_push)
