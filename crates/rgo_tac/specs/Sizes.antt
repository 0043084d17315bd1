-- Which functions have more variables or instructions than numbers of 32 bits can name.
use Rattle.std.specs.Prelude.{◌⊎◌, ◌≤◌, ◌+◌, ◌^◌, ℕ}

-- The variables and the two members that are none, Global and the result, are to have numbers of 32 bits; so are the
-- instructions, and so is how many they are, with one to spare.
abbrev pub AreTooMany : (variables instrs : ℕ) → Type 0
AreTooMany variables instrs = (2 ^ 32 ≤ variables + 2) ⊎ (2 ^ 32 ≤ instrs + 1)
