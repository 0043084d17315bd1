use Rattle.std.proofs.Common.{◌≡◌, vec_len}
use Rattle.rgo_graphs.specs.Rows.{rows_of}
use Rattle.rgo_flow.specs.Blocks.{AreJoined}
use Rattle.rgo_flow.proofs.blocks.joins.Given as goal

abbrev pub invariant-loop-i : goal.invariant-loop-i
invariant-loop-i l = record {
  len : vec_len l.joins ≡ l.i;
  joined : AreJoined (rows_of l.successors) (rows_of l.before) l.joins.items;
}
