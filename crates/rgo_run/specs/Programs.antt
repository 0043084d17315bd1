-- Two laws of valid texts: their programs are well-formed, and never too large to be lowered.
use Rattle.std.specs.Prelude.{ℕ, List}
use Rattle.std.specs.List.{AllByRecursion}
use Rattle.rgo_typed.specs.Tree.{Typed}
use Rattle.rgo_wellformed.specs.Endings.{Ends}
use Rattle.rgo_wellformed.specs.WellFormed.{IsWellFormed}
use Rattle.rgo_lower.specs.Sizes.{IsTooLargeToLower}
use Rattle.rgo_run.specs.Verdicts.{IsTypedProgram}

-- the program is well-formed, and no function with a result reaches the end of its body
abbrev pub ProgramsAreWellFormed : Type 0
ProgramsAreWellFormed =
    (text : List ℕ) (program : Typed) → IsTypedProgram text program
    → IsWellFormed program × AllByRecursion Ends program.functions

-- the code of the program fits numbers of 32 bits, so the lowering's `TooLarge` never occurs
abbrev pub NoProgramIsTooLarge : Type 0
NoProgramIsTooLarge = (text : List ℕ) (program : Typed) → IsTypedProgram text program → IsTooLargeToLower program → ⊥
