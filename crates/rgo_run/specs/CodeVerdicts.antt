-- The verdict on a code text: its code, or the first malformed line, or the least rule that it breaks. Verdicts.antt does the same
-- for the source of a program.
use Rattle.std.specs.Prelude.{◌≡◌, ◌⊎◌, ℕ, ◌<◌, ◌≤◌, List, length}
use Rattle.rgo_code.specs.Checked.{IsChecked, IsFirstBroken}
use Rattle.rgo_code.specs.Code.{Code}
use Rattle.rgo_code.specs.NameRules.{Ascends}
use Rattle.rgo_code.specs.declared.rules.CodeRefusal.{CodeRefusal}
use Rattle.rgo_code_printing.specs.Text.{text_of}
use Rattle.rgo_code_text.specs.Forms.{IsFirstWithoutForm}
use Rattle.rgo_code_text.specs.Written.{HasCodeText}
use Rattle.rgo_run.specs.declared.refusals.CodeTextRefusal.{CodeTextRefusal}
use Rattle.rgo_run.specs.declared.refusals.CodeTextRefusal.TheVariants.{TooLong, NoForm, Breaks}

-- the greatest length of a code text, in bytes
abbrev pub code_limit : ℕ
code_limit = 67108864

-- the text is within the limit, and is the text of this code
pub record IsTextOfCode (text : List ℕ) (code : Code) : Type 0 where
  pub within : length text ≤ code_limit
  pub written : HasCodeText code
  pub text_is : text ≡ text_of code

-- The text is the text of this code, which keeps all rules, and whose lists of names are all ascending. The order is an invariant of
-- the type `Code`, so no rule has to check it.
pub record IsCheckedText (text : List ℕ) (code : Code) : Type 0 where
  pub is_text : IsTextOfCode text code
  pub checked : IsChecked code
  pub ascends : Ascends code

-- the text is the text of some code that keeps all rules
pub record CodePasses (text : List ℕ) : Type 0 where
  pub code : Code
  pub is_text : IsTextOfCode text code
  pub checked : IsChecked code

-- the text is the text of code that breaks a rule: the rule with the least number, and the first line that breaks it
pub record CodeBreaks (text : List ℕ) (refusal : CodeRefusal) : Type 0 where
  pub code : Code
  pub is_text : IsTextOfCode text code
  pub broken : IsFirstBroken code refusal.rule refusal.line

-- `CodeRefused text r`: `r` is the reason why the code text is rejected
abbrev pub CodeRefused : List ℕ → CodeTextRefusal → Type 0
CodeRefused text TooLong = code_limit < length text
CodeRefused text (NoForm line) = (length text ≤ code_limit) × IsFirstWithoutForm text line
CodeRefused text (Breaks refusal) = CodeBreaks text refusal

-- Each code text is the text of at most one code, and passes or has one refusal, never both.
pub record OneCodeVerdict : Type 0 where
  pub one_code : (text : List ℕ) (a b : Code) → IsTextOfCode text a → IsTextOfCode text b → a ≡ b
  pub one_refusal : (text : List ℕ) (a b : CodeTextRefusal) → CodeRefused text a → CodeRefused text b → a ≡ b
  pub never_both : (text : List ℕ) (a : CodeTextRefusal) → CodePasses text → CodeRefused text a → ⊥
  pub one_of_both : (text : List ℕ) → CodePasses text ⊎ ((why : CodeTextRefusal) × CodeRefused text why)
