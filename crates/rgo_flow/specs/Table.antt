-- What the tables say: where a variable is live.
use Rattle.std.specs.Prelude.{◌<◌, ℕ, vec_len, slice_index}
use Rattle.rgo_graphs.specs.Rows.{rows_of, row_at}
use Rattle.rgo_flow.specs.declared.table.Liveness.{Liveness}
use Rattle.rgo_flow.specs.Solved.{IsLiveFrom}

-- variable v is live just before instruction i
pub record IsLive (l : Liveness) (v i : ℕ) : Type 0 where
  pub point : i < vec_len l.first
  pub variable : v < vec_len l.readers
  pub live : IsLiveFrom (rows_of l.exits.items) (slice_index l.first.items i) (slice_index l.last.items i)
      (row_at (rows_of l.readers.items) v) (row_at (rows_of l.writers.items) v) (row_at (rows_of l.solved.items) v) i
