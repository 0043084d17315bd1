use Rattle.std.proofs.Common.{arith}
use Rattle.rgo_parser.proofs.declarations.decl.Goals as goal

pub returns-in_default : goal.returns-in_default
returns-in_default c = grind arith

pub returns-in_err-group-in-TypeWord : goal.returns-in_err-group-in-TypeWord
returns-in_err-group-in-TypeWord c = grind arith

pub returns-in_ok-group-in-TypeWord : goal.returns-in_ok-group-in-TypeWord
returns-in_ok-group-in-TypeWord c = grind arith

pub returns-in_err-group-in-Var : goal.returns-in_err-group-in-Var
returns-in_err-group-in-Var c = grind arith

pub returns-in_ok-group-in-Var : goal.returns-in_ok-group-in-Var
returns-in_ok-group-in-Var c = grind arith

pub returns-in_err-func-in-Func : goal.returns-in_err-func-in-Func
returns-in_err-func-in-Func c = grind arith

pub returns-in_ok-func-in-Func : goal.returns-in_ok-func-in-Func
returns-in_ok-func-in-Func c = grind arith

pub returns-in_default-terminal : goal.returns-in_default-terminal
returns-in_default-terminal c = grind arith
