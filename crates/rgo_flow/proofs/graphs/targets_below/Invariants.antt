use Rattle.std.proofs.Common.{take}
use Rattle.rgo_flow.specs.Graphs.{HasTargets}
use Rattle.rgo_flow.proofs.graphs.targets_below.Given as goal

abbrev pub invariant-loop-target : goal.invariant-loop-target
invariant-loop-target l = HasTargets l.row.items (take l.target-index l.targets) l.count
