use Rattle.std.proofs.Common.{arith}
use Rattle.std.proofs.lemmas.List.{map_push}
use Rattle.rgo_typing_rules.proofs.Refusals.{refusals}
use Rattle.rgo_typing_statements.proofs.locals.define.Goals as goal

pub returns-in_err-value : goal.returns-in_err-value
returns-in_err-value c = grind (arith, refusals, map_push)

pub returns-in_err-kind : goal.returns-in_err-kind
returns-in_err-kind c = grind (arith, refusals, map_push)

pub returns : goal.returns
returns c = grind (arith, refusals, map_push)
