-- What is written to a sink line by line, and what is known of its counts.
use Rattle.std.specs.Prelude.{◌≡◌, ℕ, ◌-◌, Bool, true, List, length, take, Option, All}
use Rattle.rgo_outside.specs.Causes.{Rose}
use Rattle.rgo_outside.specs.Pieces.{AddsOnly}

-- No byte but the last is a newline. Each write of a run is such a piece, so lines of different goroutines never mix.
abbrev pub IsLineEnd : List ℕ → Type 0
IsLineEnd bytes = All (λ b. b ≡ 10 → ⊥) (take (length bytes - 1) bytes)

-- What was written, and whether it failed: the faults before and after, whether the sink is broken, and the pieces before
-- and after. A fault rises if a write failed, which was the last one, and only then.
pub record Writes
    (failed : Type 0) (before now : ℕ) (after : Bool) (old new : Option (List (List ℕ)))
    : Type 0 where
  pub fault : failed → Rose before now
  pub broken : failed → after ≡ true
  pub kept : (failed → ⊥) → now ≡ before
  pub lines : AddsOnly IsLineEnd old new
