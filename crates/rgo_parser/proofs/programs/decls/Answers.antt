use Rattle.std.proofs.Common.{arith}
use Rattle.rgo_parser.proofs.DeclTurns.{decl_turns}
use Rattle.rgo_parser.proofs.programs.decls.Goals as goal

pub returns-then-is_none : goal.returns-then-is_none
returns-then-is_none c = grind (arith, decl_turns)

pub returns-in_err-one : goal.returns-in_err-one
returns-in_err-one c = grind (arith, decl_turns)

pub returns-in_err-take : goal.returns-in_err-take
returns-in_err-take c = grind (arith, decl_turns)

pub loop-turn-preserved : goal.loop-turn-preserved
loop-turn-preserved c = grind (arith, decl_turns)

pub returns : goal.returns
returns c = grind (arith, decl_turns)
