use Rattle.std.proofs.Common.{arith}
use Rattle.rgo_parser.proofs.ListTurns.{list_turns}
use Rattle.rgo_parser.proofs.items.list.Goals as goal

pub returns-in_err-closing : goal.returns-in_err-closing
returns-in_err-closing g c = grind (arith, list_turns)

pub returns-in-Some : goal.returns-in-Some
returns-in-Some g c = grind (arith, list_turns)

pub returns-in_err-item : goal.returns-in_err-item
returns-in_err-item g c = grind (arith, list_turns)

pub returns-in_err-closing-2 : goal.returns-in_err-closing-2
returns-in_err-closing-2 g c = grind (arith, list_turns)

pub returns-in-Some-2 : goal.returns-in-Some-2
returns-in-Some-2 g c = grind (arith, list_turns)

pub loop-turn-preserved : goal.loop-turn-preserved
loop-turn-preserved g c = grind (arith, list_turns)

pub returns : goal.returns
returns g c = grind (arith, list_turns)
