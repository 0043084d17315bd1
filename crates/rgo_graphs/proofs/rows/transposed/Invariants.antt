use Rattle.std.proofs.Common.{◌≡◌, ◌<◌, ℕ, vec_len, ◌↔◌}
use Rattle.rgo_graphs.specs.Rows.{AllAscending, Relates, rows_of}
use Rattle.rgo_graphs.proofs.rows.transposed.Given as goal

abbrev pub invariant-loop-i : goal.invariant-loop-i
invariant-loop-i l = record {
  len : vec_len l.transposed ≡ l.count;
  ascending : AllAscending (rows_of l.transposed.items);
  transposed : (i x : ℕ) → ((i < l.i) × Relates (rows_of l.rows) i x)
      ↔ Relates (rows_of l.transposed.items) x i;
}
