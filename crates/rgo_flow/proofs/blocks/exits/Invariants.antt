use Rattle.std.proofs.Common.{◌≡◌, vec_len, get_or}
use Rattle.rgo_graphs.specs.Rows.{Relates, rows_of}
use Rattle.rgo_graphs.specs.RowsTo.{RowsTo}
use Rattle.rgo_flow.proofs.blocks.exits.Given as goal

abbrev pub invariant-loop-i : goal.invariant-loop-i
invariant-loop-i l = record {
  len : vec_len l.exits ≡ l.i;
  exits : RowsTo l.exits.items (λ s j. (get_or l.first s 0 ≡ s)
      × Relates (rows_of l.successors) (get_or l.last s 0) j) l.i;
}
