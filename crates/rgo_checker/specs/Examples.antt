-- Code that has as many lines as code may have, and code that has one more.
use Rattle.std.specs.Prelude.{◌≡◌, ◌-◌, ◌^◌, List, [], length}
use Rattle.rgo_typed.specs.declared.programs.Struct.{Struct}
use Rattle.rgo_code.specs.Code.{Code}
use Rattle.rgo_checker.specs.Sizes.{IsTooLargeToCheck}

abbrev pub of_structs : List Struct → Code
of_structs structs = record {
  structs = structs;
  variables = [];
  functions = [];
  undeclared = record { structs = []; variables = []; functions = [] };
}

-- the head is line 1, and the end of the text the line after the last struct
pub record LineCountExamples : Type 0 where
  pub most : (structs : List Struct) → length structs ≡ 2 ^ 32 - 3 → IsTooLargeToCheck (of_structs structs) → ⊥
  pub one_more : (structs : List Struct) → length structs ≡ 2 ^ 32 - 2 → IsTooLargeToCheck (of_structs structs)
