use Rattle.rgo_summaries.specs.Joining.{GrowsBy, IsNodes}
use Rattle.rgo_summaries.proofs.beginning.grow.Given as goal

abbrev pub invariant-loop-added : goal.invariant-loop-added
invariant-loop-added l = record {
  is : IsNodes l.nodes;
  grows : GrowsBy l.fn.nodes l.nodes l.added;
}
