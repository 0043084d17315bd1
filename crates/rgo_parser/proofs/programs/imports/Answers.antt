use Rattle.std.proofs.Common.{arith}
use Rattle.rgo_parser.proofs.DeclTurns.{import_turns}
use Rattle.rgo_parser.proofs.programs.imports.Goals as goal

pub returns-in_default : goal.returns-in_default
returns-in_default c = grind (arith, import_turns)

pub returns-in_default-terminal : goal.returns-in_default-terminal
returns-in_default-terminal c = grind (arith, import_turns)

pub returns-in_err-one : goal.returns-in_err-one
returns-in_err-one c = grind (arith, import_turns)

pub returns-in_err-take : goal.returns-in_err-take
returns-in_err-take c = grind (arith, import_turns)

pub loop-turn-preserved : goal.loop-turn-preserved
loop-turn-preserved c = grind (arith, import_turns)

pub returns : goal.returns
returns c = grind (arith, import_turns)
