use Rattle.rgo_region_sets.specs.Branches.{AreBranches}
use Rattle.rgo_region_sets.proofs.branches.branches_of.Given as goal

abbrev pub invariant-loop-point : goal.invariant-loop-point
invariant-loop-point l =
    AreBranches l.function l.branches.points.items l.branches.targets.items l.branches.others.items l.point
