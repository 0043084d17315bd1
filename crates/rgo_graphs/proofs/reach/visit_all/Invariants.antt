use Rattle.std.proofs.Common.{◌≤◌, length, drop}
use Rattle.rgo_graphs.specs.Visits.{Visits}
use Rattle.rgo_graphs.proofs.reach.visit_all.Given as goal

abbrev pub invariant-loop-left : goal.invariant-loop-left
invariant-loop-left l = record {
  within : l.left ≤ length l.these;
  visits : Visits l.stamp l.fn.found.items l.fn.marks l.found.items l.marks (drop l.left l.these);
}

abbrev pub decreases-loop-left : goal.decreases-loop-left
decreases-loop-left l = l.left
