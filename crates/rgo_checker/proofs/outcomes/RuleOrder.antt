-- The rules one by one, in the order of their numbers.
use Rattle.std.proofs.Common.{◌≡◌, ℕ, ◌+◌, ◌<◌, ◌≤◌, Some, None, sym, subst, arith, ◌⊎◌, inl, inr}
use Rattle.std.proofs.lemmas.Bool.{cases_lt}
use Rattle.rgo_code.specs.declared.rules.Rule.{Rule}
use Rattle.rgo_code.specs.Checked.{rule_number}
use Rattle.rgo_checker.specs.Instrs.{LeastBroken}
use Rattle.rgo_checker.proofs.outcomes.OneOutcome.{same_rule}
use Rattle.rgo_checker.proofs.outcomes.Outcome.{at_most}

module _ (Kept : Rule → Type 0) (n : ℕ)
    (before : (x : Rule) → 2 ≤ rule_number x → rule_number x < n → Kept x) where
  -- one rule more is kept
  pub more_kept : (r : Rule) → rule_number r ≡ n → Kept r → (x : Rule) → 2 ≤ rule_number x → rule_number x < n + 1
      → Kept x
  more_kept r e k x low high = go (cases_lt (rule_number x) n)
    where
      go : (rule_number x < n) ⊎ (n ≤ rule_number x) → Kept x
      go (inl l) = before x low l
      go (inr g) = subst Kept (sym (same_rule x r (omega (arith, high, g, e)))) k

  -- the next rule is broken
  pub broken_here : (r : Rule) (limit : ℕ) → rule_number r ≡ n → 2 ≤ n → n < limit → (Kept r → ⊥)
      → LeastBroken Kept 2 limit (Some r)
  broken_here r limit e low high k =
      (omega (arith, e, low), omega (arith, e, high), k, (λ x l h. before x l (omega (arith, e, h))))

  -- none below the limit is
  pub none_broken : (limit : ℕ) → limit ≤ n → LeastBroken Kept 2 limit None
  none_broken limit h = λ x low high. before x low (omega (arith, h, high))

  pub all_kept : (limit : ℕ) → 15 ≤ n → LeastBroken Kept 2 limit None
  all_kept limit h = λ x low high. before x low (omega (arith, h, at_most x))
