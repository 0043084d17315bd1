use Rattle.std.proofs.Common.{◌≡◌, ◌<◌, ◌≤◌, ℕ, length, vec_len}
use Rattle.std.specs.List.{All}
use Rattle.rgo_graphs.specs.Rows.{AllAscending, row_at, rows_of}
use Rattle.rgo_flow.specs.Solved.{Solves}
use Rattle.rgo_flow.proofs.solving.solve_all.Given as goal

abbrev pub invariant-loop-v : goal.invariant-loop-v
invariant-loop-v l = record {
  len : vec_len l.solved ≡ l.v;
  size : length l.marks ≡ length l.first;
  marks : All (λ m. m ≤ l.v) l.marks;
  ascending : AllAscending (rows_of l.solved.items);
  solved : (v : ℕ) → v < l.v → Solves (rows_of l.before) l.first l.last (row_at (rows_of l.readers) v)
      (row_at (rows_of l.writers) v) (row_at (rows_of l.solved.items) v);
}
