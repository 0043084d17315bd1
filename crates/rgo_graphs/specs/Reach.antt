-- What is reached backwards from seeds along the rows of a relation, past no barrier.
use Rattle.std.specs.Prelude.{ℕ, zero, suc, List, Contains}
use Rattle.rgo_graphs.specs.Rows.{Relates}

-- in n steps: a seed, even if it is a barrier, or a number that is not a barrier and is in the row of one that is reached
abbrev pub ReachedIn : List (List ℕ) → List ℕ → List ℕ → ℕ → ℕ → Type 0
ReachedIn before seeds barriers zero p = Contains seeds p
ReachedIn before seeds barriers (suc n) p = (j : ℕ) × (Contains barriers p → ⊥) × Relates before j p
    × ReachedIn before seeds barriers n j

abbrev pub Reached : List (List ℕ) → List ℕ → List ℕ → ℕ → Type 0
Reached before seeds barriers p = (n : ℕ) × ReachedIn before seeds barriers n p
