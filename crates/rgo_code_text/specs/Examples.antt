-- Code whose parts are printable, and code that has a part that is not; how long texts may be.
use Rattle.std.specs.Prelude.{◌≡◌, ℕ, ◌-◌, ◌^◌, List, [], ◌∷◌, length, None, codes}
use Rattle.rgo_typed.specs.declared.statements.Piece.TheVariants.{Value}
use Rattle.rgo_code.specs.Code.{CodeOp, Code, Print, Return}
use Rattle.rgo_code_text.specs.Printable.{IsPrintable}
use Rattle.rgo_code_text.specs.Sizes.{IsTooLongText}

-- code of one function with this name and these instructions, all at this place
abbrev pub one_function : (name : List ℕ) → CodeOp → (place : ℕ) → Code
one_function name op place = record {
  structs = [];
  variables = [];
  functions =
      record {
        name = name;
        params = 0;
        result = None;
        variables = [];
        entry = [];
        body = record { creates = []; op = op; place = place } ∷ [];
      } ∷ [];
  undeclared = record { structs = []; variables = []; functions = [] };
}

pub record CodeTextExamples : Type 0 where
  pub returns : IsPrintable (one_function (codes "main") (Return None) 7)
  -- a keyword is not a name
  pub keyword : IsPrintable (one_function (codes "func") (Return None) 7) → ⊥
  -- a place has 32 bits
  pub place : IsPrintable (one_function (codes "main") (Return None) (2 ^ 32)) → ⊥
  -- a piece prints a variable, and the print has none
  pub print : IsPrintable (one_function (codes "main") (Print (Value ∷ []) [] []) 7) → ⊥
  -- the longest text, and one that has a byte more
  pub longest : (text : List ℕ) → length text ≡ 2 ^ 32 - 3 → IsTooLongText text → ⊥
  pub too_long : (text : List ℕ) → length text ≡ 2 ^ 32 - 2 → IsTooLongText text
