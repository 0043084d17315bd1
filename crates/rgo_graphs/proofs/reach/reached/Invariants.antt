use Rattle.std.proofs.Common.{length, ◌-◌}
use Rattle.rgo_graphs.specs.Rows.{rows_of}
use Rattle.rgo_graphs.proofs.Searching.{Searching}
use Rattle.rgo_graphs.proofs.reach.reached.Given as goal

abbrev pub invariant-loop-next : goal.invariant-loop-next
invariant-loop-next l = Searching (rows_of l.before) l.seeds l.barriers l.stamp l.marks l.found.items l.next

abbrev pub decreases-loop-next : goal.decreases-loop-next
decreases-loop-next l = length l.before - l.next
