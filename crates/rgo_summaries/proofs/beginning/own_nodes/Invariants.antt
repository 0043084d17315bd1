use Rattle.std.proofs.Common.{◌≡◌, ℕ, min}
use Rattle.rgo_summaries.specs.Joining.{IsNodes, AreJoinedNodes, size_of}
use Rattle.rgo_summaries.proofs.beginning.own_nodes.Given as goal

abbrev pub invariant-loop-number : goal.invariant-loop-number
invariant-loop-number l = record {
  is : IsNodes l.nodes;
  size : size_of l.nodes ≡ l.number;
  width : l.nodes.width ≡ min l.number l.width;
  alone : (x y : ℕ) → AreJoinedNodes l.nodes x y → x ≡ y;
}
