use Rattle.std.proofs.Common.{arith}
use Rattle.rgo_parser.proofs.simple.valued.Goals as goal

pub returns-in_err-value : goal.returns-in_err-value
returns-in_err-value c = grind arith

pub returns-in_default : goal.returns-in_default
returns-in_default c = grind arith

pub returns-in_err-sent-in-Arrow : goal.returns-in_err-sent-in-Arrow
returns-in_err-sent-in-Arrow c = grind arith

pub returns-in_ok-sent-in-Arrow : goal.returns-in_ok-sent-in-Arrow
returns-in_ok-sent-in-Arrow c = grind arith

pub returns-in-Step : goal.returns-in-Step
returns-in-Step c = grind arith

pub returns-in_err-assigned-in-Assign : goal.returns-in_err-assigned-in-Assign
returns-in_err-assigned-in-Assign c = grind arith

pub returns-in_ok-assigned-in-Assign : goal.returns-in_ok-assigned-in-Assign
returns-in_ok-assigned-in-Assign c = grind arith

pub returns-in_default-terminal : goal.returns-in_default-terminal
returns-in_default-terminal c = grind arith
