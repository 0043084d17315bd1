use Rattle.std.proofs.Common.{arith}
use Rattle.rgo_reader.proofs.TypeTurns.{name_turns}
use Rattle.rgo_reader.proofs.types.names.Goals as goal

pub loop-turn-preserved : goal.loop-turn-preserved
loop-turn-preserved c = grind (arith, name_turns)

pub returns-in_default : goal.returns-in_default
returns-in_default c = grind (arith, name_turns)

pub returns-in_err-name-in-Some : goal.returns-in_err-name-in-Some
returns-in_err-name-in-Some c = grind (arith, name_turns)

pub returns : goal.returns
returns c = grind (arith, name_turns)
