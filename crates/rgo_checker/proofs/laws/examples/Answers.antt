use Rattle.std.proofs.Common.{arith}
use Rattle.rgo_checker.proofs.laws.examples.Goals as goal

pub returns : goal.returns
returns c = record { most = λ structs e large. omega (arith, e, large); one_more = λ structs e. omega (arith, e) }
