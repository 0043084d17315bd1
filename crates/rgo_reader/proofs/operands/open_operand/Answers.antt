use Rattle.std.proofs.Common.{arith}
use Rattle.rgo_reader.proofs.operands.open_operand.Goals as goal

pub returns-in_default : goal.returns-in_default
returns-in_default c = grind arith

pub returns-in_ok-new-in-Name : goal.returns-in_ok-new-in-Name
returns-in_ok-new-in-Name c = grind arith

pub returns-in_ok-new-in-Number : goal.returns-in_ok-new-in-Number
returns-in_ok-new-in-Number c = grind arith

pub returns-in_ok-new-in-Text : goal.returns-in_ok-new-in-Text
returns-in_ok-new-in-Text c = grind arith

pub returns-in-OpenParen : goal.returns-in-OpenParen
returns-in-OpenParen c = grind arith

pub returns-in_err-new_at-in-New : goal.returns-in_err-new_at-in-New
returns-in_err-new_at-in-New c = grind arith

pub returns-in_ok-new_at-in-New : goal.returns-in_ok-new_at-in-New
returns-in_ok-new_at-in-New c = grind arith

pub returns-in_err-take-in-Make : goal.returns-in_err-take-in-Make
returns-in_err-take-in-Make c = grind arith

pub returns-in_ok-take-in-Make : goal.returns-in_ok-take-in-Make
returns-in_ok-take-in-Make c = grind arith

pub returns-in_default-terminal : goal.returns-in_default-terminal
returns-in_default-terminal c = grind arith
