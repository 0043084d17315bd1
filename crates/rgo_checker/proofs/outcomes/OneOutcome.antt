-- There is one first broken rule, and one line: of two, neither can be less than the other.
use Rattle.std.proofs.Common.{◌≡◌, ℕ, ◌<◌, ◌≤◌, refl, sym, ap, ◌∙◌, subst, arith, ◌⊎◌, inl, inr, nat_eq, if◌then◌else◌}
use Rattle.std.proofs.lemmas.Bool.{cases_lt}
use Rattle.rgo_code.specs.declared.rules.Rule.{Rule}
use Rattle.rgo_code.specs.declared.rules.Rule.TheVariants as rule
use Rattle.rgo_code.specs.Checked.{IsFirstBroken, rule_number}
use Rattle.rgo_code.specs.Code.{Code}
use Rattle.rgo_checker.specs.Outcomes.{OneOutcome}

-- the rule of a number
abbrev pub rule_of : ℕ → Rule
rule_of n =
    if nat_eq n 1 then rule.Exists else
    (if nat_eq n 2 then rule.Types else
    (if nat_eq n 3 then rule.Classes else
    (if nat_eq n 4 then rule.Joins else
    (if nat_eq n 5 then rule.Globals else
    (if nat_eq n 6 then rule.Calls else
    (if nat_eq n 7 then rule.Starts else
    (if nat_eq n 8 then rule.Entry else
    (if nat_eq n 9 then rule.Creations else
    (if nat_eq n 10 then rule.Protections else
    (if nat_eq n 11 then rule.Returns else
    (if nat_eq n 12 then rule.Lending else
    (if nat_eq n 13 then rule.Removals else
    rule.Endings))))))))))))

pub rule_back : (r : Rule) → rule_of (rule_number r) ≡ r
rule_back rule.Exists = refl
rule_back rule.Types = refl
rule_back rule.Classes = refl
rule_back rule.Joins = refl
rule_back rule.Globals = refl
rule_back rule.Calls = refl
rule_back rule.Starts = refl
rule_back rule.Entry = refl
rule_back rule.Creations = refl
rule_back rule.Protections = refl
rule_back rule.Returns = refl
rule_back rule.Lending = refl
rule_back rule.Removals = refl
rule_back rule.Endings = refl

-- rules with one number are the same
pub same_rule : (a b : Rule) → rule_number a ≡ rule_number b → a ≡ b
same_rule a b e = sym (rule_back a) ∙ ap rule_of e ∙ rule_back b

not_less : (code : Code) (a b : Rule) (m n : ℕ) → IsFirstBroken code a m → IsFirstBroken code b n
    → rule_number a < rule_number b → ⊥
not_less code a b m n p q l = p.is_broken (q.least a l p.at)

no_earlier : (code : Code) (a : Rule) (m n : ℕ) → IsFirstBroken code a m → IsFirstBroken code a n → m < n → ⊥
no_earlier code a m n p q l = p.is_broken (q.first p.at (omega (arith, p.numbered, l)))

one_line : (code : Code) (a : Rule) (m n : ℕ) → IsFirstBroken code a m → IsFirstBroken code a n → m ≡ n
one_line code a m n p q = go (cases_lt m n) (cases_lt n m)
  where
    go : (m < n) ⊎ (n ≤ m) → (n < m) ⊎ (m ≤ n) → m ≡ n
    go (inl l) other = absurd (no_earlier code a m n p q l)
    go (inr g) (inl l) = absurd (no_earlier code a n m q p l)
    go (inr g) (inr h) = omega (arith, g, h)

one_number : (code : Code) (a b : Rule) (m n : ℕ) → IsFirstBroken code a m → IsFirstBroken code b n
    → rule_number a ≡ rule_number b
one_number code a b m n p q = go (cases_lt (rule_number a) (rule_number b)) (cases_lt (rule_number b) (rule_number a))
  where
    go : (rule_number a < rule_number b) ⊎ (rule_number b ≤ rule_number a)
        → (rule_number b < rule_number a) ⊎ (rule_number a ≤ rule_number b) → rule_number a ≡ rule_number b
    go (inl l) other = absurd (not_less code a b m n p q l)
    go (inr g) (inl l) = absurd (not_less code b a n m q p l)
    go (inr g) (inr h) = omega (arith, g, h)

pub one_outcome : OneOutcome
one_outcome = record {
  one = λ code a b m n p q.
      let e = same_rule a b (one_number code a b m n p q) in
      (e, one_line code b m n (subst (λ r. IsFirstBroken code r m) e p) q);
  not_both = λ code a m c p. p.is_broken (c a p.at);
}
