-- Rows that have what a relation says.
use Rattle.std.specs.Prelude.{◌<◌, ◌↔◌, ℕ, List, Vec}
use Rattle.std.specs.Global.{Global}
use Rattle.rgo_graphs.specs.Rows.{Relates, rows_of}

-- the rows below i, and no others, have what the relation says
abbrev pub RowsTo : List (Vec ℕ Global) → (ℕ → ℕ → Type 0) → ℕ → Type 0
RowsTo rows R i = (s j : ℕ) → Relates (rows_of rows) s j ↔ ((s < i) × R s j)
