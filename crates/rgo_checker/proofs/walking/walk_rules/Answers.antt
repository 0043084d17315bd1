use Rattle.std.proofs.Common.{◌≡◌, ◌+◌, length, arith}
use Rattle.rgo_checker.proofs.outcomes.Outcome.{rules}
use Rattle.rgo_checker.proofs.walking.walk_rules.Goals as goal

pub returns : goal.returns
returns c =
    let code = c.args.code.now in
    let e : c.first_line-line.result ≡ length code.structs + length code.variables + 2 =
    omega (arith, c.first_line-line.ensures, c.requires.numbers) in
    rules code c.first_line-line.result c.walk_functions.new.scan c.requires.numbers c.requires.exists e
    c.in_ok-walk_functions.ensures
