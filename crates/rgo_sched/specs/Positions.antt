-- Positions of tasks, one at a time: a fact about all tasks is proved for each position with the weight that counts it alone.
use Rattle.std.specs.Prelude.{◌≡◌, ℕ, zero, suc, List, Option, Some, slice_get}

-- the weight that counts one position: 1 at this number, and 0 at the others
abbrev pub only : ℕ → ℕ → ℕ
only zero zero = 1
only zero (suc j) = 0
only (suc i) zero = 0
only (suc i) (suc j) = only i j

-- the position has its task
abbrev pub Filled : List (Option ℕ) → ℕ → Type 0
Filled results k = slice_get results k ≡ Some (Some k)
