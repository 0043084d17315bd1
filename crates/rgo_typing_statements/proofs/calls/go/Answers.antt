use Rattle.std.proofs.Common.{arith}
use Rattle.std.proofs.lemmas.List.{map_push}
use Rattle.rgo_typing_rules.proofs.Refusals.{refusals}
use Rattle.rgo_typing_statements.proofs.calls.go.Goals as goal

pub returns-in_err-values : goal.returns-in_err-values
returns-in_err-values c = grind (arith, refusals, map_push)

pub returns-in_err-started : goal.returns-in_err-started
returns-in_err-started c = grind (arith, refusals, map_push)

pub returns : goal.returns
returns c = grind (arith, refusals, map_push)
