use Rattle.std.proofs.Common.{◌≡◌, ℕ, ◌≤◌, take, vec_len}
use Rattle.std.specs.List.{Contains}
use Rattle.rgo_graphs.specs.Rows.{Adds, AllAscending, Relates, rows_of}
use Rattle.rgo_graphs.proofs.rows.add_row.Given as goal

abbrev pub invariant-loop-at : goal.invariant-loop-at
invariant-loop-at l = record {
  len : vec_len l.rows ≡ vec_len l.fn.rows;
  added : Adds (rows_of l.fn.rows.items) (rows_of l.rows.items)
      (λ i x. Contains (take l.at-index l.these) i × (x ≡ l.item));
  ascending : AllAscending (rows_of l.fn.rows.items)
      → ((i x : ℕ) → Relates (rows_of l.fn.rows.items) i x → x ≤ l.item) → AllAscending (rows_of l.rows.items);
}
