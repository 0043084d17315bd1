-- What the checker's errors say. `NoMemory` may be returned at any allocation, so nothing is said of it.
use Rattle.std.specs.Prelude.{◌≡◌, ◌⊎◌, ℕ, ⊤}
use Rattle.rgo_code.specs.declared.rules.Rule.{Rule}
use Rattle.rgo_code.specs.Checked.{IsChecked, IsFirstBroken}
use Rattle.rgo_code.specs.Code.{Code}
use Rattle.rgo_checker.specs.declared.errors.CheckError.{CheckError}
use Rattle.rgo_checker.specs.declared.errors.CheckError.TheVariants.{NoMemory, TooLarge, Refused}
use Rattle.rgo_checker.specs.Sizes.{IsTooLargeToCheck}

abbrev pub CheckFails : CheckError → Code → Type 0
CheckFails NoMemory code = ⊤
CheckFails TooLarge code = IsTooLargeToCheck code
CheckFails (Refused r) code = IsFirstBroken code r.rule r.line

-- no code has two first broken rules and lines, and checked code has none
pub record OneOutcome : Type 0 where
  pub one : (code : Code) (a b : Rule) (m n : ℕ) → IsFirstBroken code a m → IsFirstBroken code b n → (a ≡ b) × (m ≡ n)
  pub not_both : (code : Code) (a : Rule) (m : ℕ) → IsChecked code → IsFirstBroken code a m → ⊥

-- code keeps all rules, or has a first broken rule and line
abbrev pub SomeOutcome : Type 0
SomeOutcome = (code : Code) → IsChecked code ⊎ ((rule : Rule) × (line : ℕ) × IsFirstBroken code rule line)
