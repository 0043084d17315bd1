use Rattle.std.proofs.Common.{◌<◌, ℕ}
use Rattle.rgo_graphs.specs.Rows.{Relates, rows_of}
use Rattle.rgo_flow.proofs.graphs.width.Given as goal

abbrev pub invariant-loop-row : goal.invariant-loop-row
invariant-loop-row l = (i x : ℕ) → i < l.row-index → Relates (rows_of l.rows) i x → x < l.width
