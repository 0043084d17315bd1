-- What the ranges of a variable rest on.
use Rattle.std.specs.Prelude.{◌≡◌, ◌<◌, ℕ, Bool, List, length, nat_eq}
use Rattle.std.specs.List.{list_any}
use Rattle.rgo_graphs.specs.Rows.{Relates, row_at}
use Rattle.rgo_flow.specs.Blocks.{Runs, IsHead}

-- whether a list has a number
abbrev pub has : ℕ → List ℕ → Bool
has x xs = list_any (nat_eq x) xs

-- the blocks, what precedes them, and where variables are read
pub record AreRuns (first last : List ℕ) (exits before readers solved : List (List ℕ)) : Type 0 where
  pub runs : Runs first last
  pub heads : (h s : ℕ) → Relates exits h s → IsHead first h
  pub transposed : (h s : ℕ) → has s (row_at exits h) ≡ has h (row_at before s)
  pub read : (v r : ℕ) → Relates readers v r → r < length first
  pub into : (v s : ℕ) → Relates solved v s → s < length before
