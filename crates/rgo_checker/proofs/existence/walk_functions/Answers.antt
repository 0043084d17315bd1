use Rattle.std.proofs.Common.{◌≤◌, length, take, subst, arith}
use Rattle.std.proofs.lemmas.List.{take_all}
use Rattle.rgo_checker.specs.Lines.{functions_lines}
use Rattle.rgo_checker.specs.Naming.{fn_names}
use Rattle.rgo_checker.specs.Scan.{Walks}
use Rattle.rgo_checker.proofs.walks.ExistenceWalk.{name_at}
use Rattle.rgo_checker.proofs.Getting.{there}
use Rattle.rgo_checker.proofs.decides.NamingLaws.{no_names, names_next}
use Rattle.rgo_checker.proofs.walks.Scanning.{walks_none}
use Rattle.rgo_checker.proofs.walks.WalkLaws.{functions_walked}
use Rattle.rgo_checker.proofs.existence.walk_functions.Goals as goal

pub loop-n-init : goal.loop-n-init
loop-n-init c = record {
  names = no_names c.new-names.result c.new-names.ensures.empty;
  walks = walks_none c.args.code.now 1 2 c.args.scan.now;
}

pub loop-n-preserved : goal.loop-n-preserved
loop-n-preserved c =
    let code = c.args.code.now in
    let n = c.loop-n.n in
    let x = there code.functions n (omega (arith, c.len-n-end.ensures)) in
    record {
      names =
          names_next (fn_names code) n x.0.name (name_at code c.loop-n.scan c.walk_number.new.scan n x.0 x.1)
          c.walk_number.new.names
          (c.in_ok-walk_number.ensures.names x.0 x.1 (take n (fn_names code)) c.loop-n.invariant.names);
      walks =
          functions_walked code 1 2 n x.0 c.args.scan.now c.loop-n.scan c.walk_number.new.scan x.1
          c.loop-n.invariant.walks (c.in_ok-walk_number.ensures.walks x.0 x.1 c.loop-n.invariant.names);
    }

pub returns : goal.returns
returns c =
    let fs = c.args.code.now.functions in
    let long : length fs ≤ c.loop-n.n = omega (arith, c.len-n-end.ensures) in
    subst (λ ls. Walks c.args.code.now 1 2 (functions_lines 0 ls) c.args.scan.now c.loop-n.scan)
    (take_all c.loop-n.n fs long) c.loop-n.invariant.walks
