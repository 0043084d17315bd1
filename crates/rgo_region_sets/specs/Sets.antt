-- Sets of names, as lists in ascending order.
use Rattle.std.specs.Prelude.{◌↔◌, ℕ, Bool, true, false, List, [], ◌∷◌, ◌++◌, Contains}
use Rattle.std.specs.List.Sorted.{IsStrictlyIncreasing}

-- The list has exactly these, each once, in ascending order. There is only one such list, so the checker compares lists by equality.
pub record IsSet (names : List ℕ) (Has : ℕ → Type 0) : Type 0 where
  pub ascends : IsStrictlyIncreasing names
  pub members : (k : ℕ) → Contains names k ↔ Has k

-- the name is put at the end if the test passed
abbrev pub pushed_if : Bool → List ℕ → ℕ → List ℕ
pushed_if true names name = names ++ name ∷ []
pushed_if false names name = names
