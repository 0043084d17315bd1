-- What holds of code texts.
use Rattle.std.specs.Prelude.{◌≡◌, ◌⊎◌, ℕ, List, []}
use Rattle.rgo_code.specs.Checked.{IsChecked}
use Rattle.rgo_code.specs.Code.{Code}
use Rattle.rgo_code.specs.NameRules.{Ascends}
use Rattle.rgo_code_printing.specs.Text.{text_of}
use Rattle.rgo_code_text.specs.Forms.{IsText, IsFirstWithoutForm}
use Rattle.rgo_code_text.specs.Printable.{IsPrintable}
use Rattle.rgo_code_text.specs.Written.{HasCodeText}

-- no two codes have one text
abbrev pub OneText : Type 0
OneText = (code other : Code) → HasCodeText code → HasCodeText other → text_of code ≡ text_of other → code ≡ other

-- a text has at most one first line without form, and the text of code has none
pub record OneTextRefusal : Type 0 where
  pub one : (text : List ℕ) (m n : ℕ) → IsFirstWithoutForm text m → IsFirstWithoutForm text n → m ≡ n
  pub not_both : (code : Code) (n : ℕ) → HasCodeText code → IsFirstWithoutForm (text_of code) n → ⊥

-- each text is the text of code, or has a first line without form
abbrev pub TextOrRefusal : Type 0
TextOrRefusal = (text : List ℕ) → IsText text ⊎ ((n : ℕ) × IsFirstWithoutForm text n)

-- code that keeps all rules, declares what it uses, and whose parts are printable has a text
abbrev pub RulesSuffice : Type 0
RulesSuffice = (code : Code) → IsChecked code → Ascends code → code.undeclared.structs ≡ [] → code.undeclared.variables ≡ []
    → code.undeclared.functions ≡ [] → IsPrintable code → HasCodeText code
