use Rattle.std.proofs.Common.{arith}
use Rattle.rgo_reader.proofs.TypeTurns.{type_turns}
use Rattle.rgo_reader.proofs.types.+ty.Goals as goal

pub returns-then-turns-eq0 : goal.returns-then-turns-eq0
returns-then-turns-eq0 c = grind (arith, type_turns)

pub returns-in_default : goal.returns-in_default
returns-in_default c = grind (arith, type_turns)

pub returns-in_ok-ident-in-Name : goal.returns-in_ok-ident-in-Name
returns-in_ok-ident-in-Name c = grind (arith, type_turns)

pub returns-in_ok-base-in-Binary-Mul : goal.returns-in_ok-base-in-Binary-Mul
returns-in_ok-base-in-Binary-Mul c = grind (arith, type_turns)

pub returns-in_err-base-in-Binary-Mul : goal.returns-in_err-base-in-Binary-Mul
returns-in_err-base-in-Binary-Mul c = grind (arith, type_turns)

pub returns-in_err-take-in-OpenBracket : goal.returns-in_err-take-in-OpenBracket
returns-in_err-take-in-OpenBracket c = grind (arith, type_turns)

pub returns-in_err-element-in-OpenBracket : goal.returns-in_err-element-in-OpenBracket
returns-in_err-element-in-OpenBracket c = grind (arith, type_turns)

pub returns-in_ok-new-in-OpenBracket : goal.returns-in_ok-new-in-OpenBracket
returns-in_ok-new-in-OpenBracket c = grind (arith, type_turns)

pub returns-in_err-element-in-Chan : goal.returns-in_err-element-in-Chan
returns-in_err-element-in-Chan c = grind (arith, type_turns)

pub returns-in_ok-new-in-Chan : goal.returns-in_ok-new-in-Chan
returns-in_ok-new-in-Chan c = grind (arith, type_turns)

pub returns-in_default-terminal : goal.returns-in_default-terminal
returns-in_default-terminal c = grind (arith, type_turns)
