use Rattle.std.proofs.Common.{◌≡◌, ℕ, vec_len}
use Rattle.rgo_graphs.specs.Rows.{Relates, rows_of}
use Rattle.rgo_graphs.proofs.rows.empty_rows.Given as goal

abbrev pub invariant-loop-done : goal.invariant-loop-done
invariant-loop-done l = record {
  len : vec_len l.rows ≡ l.done;
  empty : (i x : ℕ) → Relates (rows_of l.rows.items) i x → ⊥;
}
