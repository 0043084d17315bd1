use Rattle.std.proofs.Common.{arith}
use Rattle.rgo_parser.proofs.headers.for_header.Goals as goal

pub returns-in_default : goal.returns-in_default
returns-in_default c = grind arith

pub returns-in-OpenBrace : goal.returns-in-OpenBrace
returns-in-OpenBrace c = grind arith

pub returns-in_err-test : goal.returns-in_err-test
returns-in_err-test c = grind arith

pub returns-in-Condition : goal.returns-in-Condition
returns-in-Condition c = grind arith

pub returns-in_err-test-in-Init : goal.returns-in_err-test-in-Init
returns-in_err-test-in-Init c = grind arith

pub returns-in_err-post-in-Init : goal.returns-in_err-post-in-Init
returns-in_err-post-in-Init c = grind arith

pub returns-in_ok-post-in-Init : goal.returns-in_ok-post-in-Init
returns-in_ok-post-in-Init c = grind arith
