use Rattle.std.proofs.Common.{◌≤◌, length, subst, arith}
use Rattle.std.proofs.lemmas.List.{take_all}
use Rattle.rgo_checker.specs.Lines.{functions_lines}
use Rattle.rgo_checker.specs.Scan.{Walks}
use Rattle.rgo_checker.proofs.Getting.{there}
use Rattle.rgo_checker.proofs.walks.Scanning.{walks_none}
use Rattle.rgo_checker.proofs.walks.WalkLaws.{functions_walked}
use Rattle.rgo_checker.proofs.walking.walk_functions.Goals as goal

pub loop-n-init : goal.loop-n-init
loop-n-init c = walks_none c.args.code.now 2 15 c.args.scan.now

pub loop-n-preserved : goal.loop-n-preserved
loop-n-preserved c =
    let fs = c.args.code.now.functions in
    let x = there fs c.loop-n.n (omega (arith, c.len-n-end.ensures)) in
    functions_walked c.args.code.now 2 15 c.loop-n.n x.0 c.args.scan.now c.loop-n.scan c.walk_number.new.scan x.1
    c.loop-n.invariant (c.in_ok-walk_number.ensures x.0 x.1)

pub returns : goal.returns
returns c =
    let fs = c.args.code.now.functions in
    let long : length fs ≤ c.loop-n.n = omega (arith, c.len-n-end.ensures) in
    subst (λ ls. Walks c.args.code.now 2 15 (functions_lines 0 ls) c.args.scan.now c.loop-n.scan)
    (take_all c.loop-n.n fs long) c.loop-n.invariant
