use Rattle.std.proofs.Common.{take}
use Rattle.rgo_graphs.specs.Visits.{Bars}
use Rattle.rgo_graphs.proofs.reach.bar_all.Given as goal

abbrev pub invariant-loop-p : goal.invariant-loop-p
invariant-loop-p l = Bars l.stamp l.fn.marks l.marks (take l.p-index l.these)
