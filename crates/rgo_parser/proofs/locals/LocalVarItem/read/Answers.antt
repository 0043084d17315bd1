use Rattle.std.proofs.Common.{arith}
use Rattle.rgo_parser.proofs.locals.LocalVarItem.read.Goals as goal

pub returns-in_default : goal.returns-in_default
returns-in_default c = grind arith

pub returns-in_err-one : goal.returns-in_err-one
returns-in_err-one c = grind arith

pub returns-in_err-typed_names-in-Comma : goal.returns-in_err-typed_names-in-Comma
returns-in_err-typed_names-in-Comma c = grind arith

pub returns-in_ok-typed_names-in-Comma : goal.returns-in_ok-typed_names-in-Comma
returns-in_ok-typed_names-in-Comma c = grind arith

pub returns-in_err-value-in-Assign-Plain : goal.returns-in_err-value-in-Assign-Plain
returns-in_err-value-in-Assign-Plain c = grind arith

pub returns-in_ok-value-in-Assign-Plain : goal.returns-in_ok-value-in-Assign-Plain
returns-in_ok-value-in-Assign-Plain c = grind arith

pub returns-in_err-ty-in_default-terminal : goal.returns-in_err-ty-in_default-terminal
returns-in_err-ty-in_default-terminal c = grind arith

pub returns-in_ok-ty-in_default-terminal : goal.returns-in_ok-ty-in_default-terminal
returns-in_ok-ty-in_default-terminal c = grind arith
