use Rattle.std.proofs.Common.{arith}
use Rattle.rgo_parser.proofs.declarations.func.Goals as goal

pub returns-in_err-name : goal.returns-in_err-name
returns-in_err-name c = grind arith

pub returns-in_err-take : goal.returns-in_err-take
returns-in_err-take c = grind arith

pub returns-in_err-params : goal.returns-in_err-params
returns-in_err-params c = grind arith

pub returns-in_err-result_type : goal.returns-in_err-result_type
returns-in_err-result_type c = grind arith

pub returns-in_err-body : goal.returns-in_err-body
returns-in_err-body c = grind arith

pub returns : goal.returns
returns c = grind arith
