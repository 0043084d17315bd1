-- A relation between numbers, kept as a list of rows: row i has the numbers that i is related to.
use Rattle.std.specs.Prelude.{◌⊎◌, ◌↔◌, ℕ, List, [], Vec, map, Contains, slice_index_or, slice_index, length, ◌≤◌, ◌<◌}
use Rattle.std.specs.Global.{Global}

abbrev pub rows_of : List (Vec ℕ Global) → List (List ℕ)
rows_of rows = map (λ row. row.items) rows

abbrev pub row_at : List (List ℕ) → ℕ → List ℕ
row_at rows i = slice_index_or rows i []

-- row i has x
abbrev pub Relates : List (List ℕ) → ℕ → ℕ → Type 0
Relates rows i x = Contains (row_at rows i) x

-- the same relation, from the other side
abbrev pub IsTransposed : List (List ℕ) → List (List ℕ) → Type 0
IsTransposed rows transposed = (i x : ℕ) → Relates rows i x ↔ Relates transposed x i

-- new relates what old relates, and these
abbrev pub Adds : List (List ℕ) → List (List ℕ) → (ℕ → ℕ → Type 0) → Type 0
Adds old new These = (i x : ℕ) → Relates new i x ↔ (Relates old i x ⊎ These i x)

abbrev pub IsAscending : List ℕ → Type 0
IsAscending xs = (a b : ℕ) → a ≤ b → b < length xs → slice_index xs a ≤ slice_index xs b

-- each row is in ascending order
abbrev pub AllAscending : List (List ℕ) → Type 0
AllAscending rows = (i : ℕ) → IsAscending (row_at rows i)
