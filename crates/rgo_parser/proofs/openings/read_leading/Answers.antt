use Rattle.std.proofs.Common.{arith}
use Rattle.rgo_parser.proofs.openings.read_leading.Goals as goal

pub returns-in_default : goal.returns-in_default
returns-in_default c = grind arith

pub returns-in-OpenBrace : goal.returns-in-OpenBrace
returns-in-OpenBrace c = grind arith

pub returns-in-If : goal.returns-in-If
returns-in-If c = grind arith

pub returns-in-For : goal.returns-in-For
returns-in-For c = grind arith

pub returns-in_err-going-in-Go : goal.returns-in_err-going-in-Go
returns-in_err-going-in-Go c = grind arith

pub returns-in_ok-going-in-Go : goal.returns-in_ok-going-in-Go
returns-in_ok-going-in-Go c = grind arith

pub returns-in_err-vars-in-Var : goal.returns-in_err-vars-in-Var
returns-in_err-vars-in-Var c = grind arith

pub returns-in_ok-vars-in-Var : goal.returns-in_ok-vars-in-Var
returns-in_ok-vars-in-Var c = grind arith

pub returns-in_err-returned-in-Return : goal.returns-in_err-returned-in-Return
returns-in_err-returned-in-Return c = grind arith

pub returns-in_ok-returned-in-Return : goal.returns-in_ok-returned-in-Return
returns-in_ok-returned-in-Return c = grind arith

pub returns-in-Break : goal.returns-in-Break
returns-in-Break c = grind arith

pub returns-in-Continue : goal.returns-in-Continue
returns-in-Continue c = grind arith

pub returns-in-Semicolon : goal.returns-in-Semicolon
returns-in-Semicolon c = grind arith

pub returns-in_err-defining-in_default-terminal : goal.returns-in_err-defining-in_default-terminal
returns-in_err-defining-in_default-terminal c = grind arith

pub returns-in_ok-defining-in_default-terminal : goal.returns-in_ok-defining-in_default-terminal
returns-in_ok-defining-in_default-terminal c = grind arith
