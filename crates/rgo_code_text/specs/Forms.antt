-- The first line of a text that has no form in its place.
use Rattle.std.specs.Prelude.{◌≡◌, ◌⊎◌, ◌+◌, ℕ, List, [], ◌∷◌, ◌++◌, length, All, Contains}
use Rattle.std.specs.List.{flat_map}
use Rattle.rgo_code.specs.Code.{Code}
use Rattle.rgo_code_printing.specs.Text.{text_of}
use Rattle.rgo_code_text.specs.Written.{HasCodeText}

-- bytes without a newline
abbrev pub IsLine : List ℕ → Type 0
IsLine bytes = ¬ (Contains bytes 10)

-- each line with its newline
abbrev pub ended_lines : List (List ℕ) → List ℕ
ended_lines lines = flat_map (λ bytes. bytes ++ 10 ∷ []) lines

-- the text of some code begins with these bytes
pub record BeginsCode (bytes : List ℕ) : Type 0 where
  pub code : Code
  pub rest : List ℕ
  pub written : HasCodeText code
  pub text : text_of code ≡ bytes ++ rest

-- these bytes are the text of some code
pub record IsText (bytes : List ℕ) : Type 0 where
  pub code : Code
  pub written : HasCodeText code
  pub text : text_of code ≡ bytes

-- A line follows with which no text of code can continue. This is defined by all code and not by a grammar: a reader of the definition
-- need not know how lines are read.
pub record HasNoForm (head tail : List ℕ) : Type 0 where
  pub bytes : List ℕ
  pub more : List ℕ
  pub line : IsLine bytes
  pub cut : tail ≡ bytes ++ 10 ∷ more
  pub stops : ¬ (BeginsCode (head ++ (bytes ++ 10 ∷ [])))

-- the text ends without a last newline, or where more lines have to follow
pub record EndsEarly (head tail : List ℕ) : Type 0 where
  pub line : IsLine tail
  pub stops : ¬ (IsText (head ++ tail))

-- Line n is the first line without form: the lines before it begin the text of some code, and no such text continues with
-- it. If the text ends early, it is what follows the last newline, which may be nothing.
pub record IsFirstWithoutForm (text : List ℕ) (n : ℕ) : Type 0 where
  pub before : List (List ℕ)
  pub tail : List ℕ
  pub lines : All IsLine before
  pub number : length before + 1 ≡ n
  pub cut : text ≡ ended_lines before ++ tail
  pub begins : BeginsCode (ended_lines before)
  pub stops : HasNoForm (ended_lines before) tail ⊎ EndsEarly (ended_lines before) tail
