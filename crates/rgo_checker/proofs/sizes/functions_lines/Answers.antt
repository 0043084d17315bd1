use Rattle.std.proofs.Common.{List, arith}
use Rattle.std.proofs.lemmas.List.{at_drop_all}
use Rattle.rgo_tac.specs.Code.{TacFn}
use Rattle.rgo_checker.specs.Sizes.{functions_lines}
use Rattle.rgo_checker.proofs.sizes.functions_lines.Goals as goal

pub returns : goal.returns
returns c =
    let none = at_drop_all (λ (l : List TacFn). functions_lines l) c.args.functions.now c.loop-f.f-index c.loop-f-test.false in
    omega (arith, none, c.loop-f.invariant.fits, c.loop-f.invariant.all)
