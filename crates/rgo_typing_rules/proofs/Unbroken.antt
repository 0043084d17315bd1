-- A node that breaks no rule: the test of each rule says so.
use Rattle.std.proofs.Common.{◌≡◌, ◌-◌, ℕ, zero, suc, Bool, true, false, List, [], ◌∷◌, map, get_or}
use Rattle.std.proofs.Common.{Option, Some, None, is_some, if◌then◌else◌, refl, ap, true≢false}
use Rattle.rgo_typing_rules.specs.declared.rules.Rule.{Rule}
use Rattle.rgo_typing_rules.specs.Nodes.{Node}
use Rattle.rgo_typing_rules.specs.RuleNames.{typing_rule_number}
use Rattle.rgo_typing_rules.specs.Rules.{breaks, first_broken, rules, broken}

kept_first : (b : Bool) (r : Rule) (o : Option Rule) → (if b then Some r else o) ≡ None → b ≡ false
kept_first true r o h = absurd (true≢false (ap is_some h))
kept_first false r o h = refl

kept_rest : (b : Bool) (r : Rule) (o : Option Rule) → (if b then Some r else o) ≡ None → o ≡ None
kept_rest true r o h = absurd (true≢false (ap is_some h))
kept_rest false r o h = h

kept_at : (n : Node) (i : ℕ) (rs : List Rule) → first_broken rs n ≡ None → get_or (map (λ r. breaks r n) rs) i false ≡ false
kept_at n i [] h = refl
kept_at n zero (r ∷ rs) h = kept_first (breaks r n) r (first_broken rs n) h
kept_at n (suc i) (r ∷ rs) h = kept_at n i rs (kept_rest (breaks r n) r (first_broken rs n) h)

-- of a rule by its name this computes to `breaks r n ≡ false`
pub keeps : (r : Rule) (n : Node) → broken n ≡ None → get_or (map (λ q. breaks q n) rules) (typing_rule_number r - 1) false ≡ false
unfolding broken
keeps r n h = kept_at n (typing_rule_number r - 1) rules h
