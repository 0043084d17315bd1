use Rattle.std.proofs.Common.{◌≡◌, vec_len}
use Rattle.rgo_graphs.specs.RowsTo.{RowsTo}
use Rattle.rgo_flow.specs.Live.{ReadsVariable, WritesVariable}
use Rattle.rgo_flow.specs.Graphs.{LeadsInside}
use Rattle.rgo_flow.proofs.graphs.graph_of.Given as goal

abbrev pub invariant-loop-at : goal.invariant-loop-at
invariant-loop-at l = record {
  successors_len : vec_len l.successors ≡ l.at;
  reads_len : vec_len l.reads ≡ l.at;
  writes_len : vec_len l.writes ≡ l.at;
  leads : RowsTo l.successors.items (λ i j. LeadsInside l.function i j) l.at;
  reads : RowsTo l.reads.items (λ i v. ReadsVariable l.function i v) l.at;
  writes : RowsTo l.writes.items (λ i v. WritesVariable l.function i v) l.at;
}
