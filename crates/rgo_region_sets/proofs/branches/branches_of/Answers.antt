use Rattle.std.proofs.Common.{◌≡◌, length, subst, arith}
use Rattle.rgo_region_sets.specs.Branches.{AreBranches}
use Rattle.rgo_region_sets.proofs.Tables.{few_branches, no_branches}
use Rattle.rgo_region_sets.proofs.branches.branches_of.Goals as goal

pub loop-point-init : goal.loop-point-init
loop-point-init c =
    rw (c.new.ensures.items, c.new-2.ensures.items, c.new-3.ensures.items) (no_branches c.args.function.now)

pub loop-point-preserved : goal.loop-point-preserved
loop-point-preserved c =
    c.in_ok-add_branch.ensures

pub returns-clause-branches : goal.returns-clause-branches
returns-clause-branches c =
    let branches = c.loop-point.branches in
    let end : c.loop-point.point ≡ length c.args.function.now.body =
    omega (arith, c.loop-point-test.false, c.loop-point.auto.point-end, c.instr_count-point-end.ensures.count) in
    subst (AreBranches c.args.function.now branches.points.items branches.targets.items branches.others.items) end
    c.loop-point.invariant

pub returns-clause-few : goal.returns-clause-few
returns-clause-few c =
    let branches = c.loop-point.branches in
    let most = few_branches c.args.function.now branches.points.items branches.targets.items branches.others.items
    c.loop-point.point c.loop-point.invariant in
    omega (arith, most, c.loop-point.auto.point-end, c.instr_count-point-end.ensures.few)
