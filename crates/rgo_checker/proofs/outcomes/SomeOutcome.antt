-- Code keeps all rules, or has a first broken rule and line. By `RulesDecided` there is a first rule in the order of numbers, and then a
-- first line, at which it is broken.
use Rattle.std.proofs.Common.{◌≡◌, ◌≢◌, ◌⊎◌, inl, inr, ℕ, zero, suc, ◌+◌, ◌<◌, ◌≤◌, List, [], ◌∷◌, Some, slice_get, refl, sym, ap, ◌∙◌, subst, arith}
use Rattle.std.proofs.lemmas.Bool.{cases_lt}
use Rattle.std.proofs.lemmas.Option.{same_Some, none-some}
use Rattle.rgo_code.specs.declared.rules.Rule.{Rule}
use Rattle.rgo_code.specs.Checked.{KeptAt, KeepsRule, IsChecked, IsFirstBroken, rule_number}
use Rattle.rgo_code.specs.Code.{Code}
use Rattle.rgo_checker.specs.Lines.{lines_of}
use Rattle.rgo_checker.specs.Outcomes.{SomeOutcome}
use Rattle.rgo_checker.proofs.Decided.{Decided, same_number}
use Rattle.rgo_checker.proofs.outcomes.OneOutcome.{rule_of, rule_back, same_rule}
use Rattle.rgo_checker.proofs.outcomes.Outcome.{at_most}
use Rattle.rgo_checker.proofs.walks.Reaching.{reach, number_at}
use Rattle.rgo_checker.proofs.outcomes.RulesDecided.{kept_or_not}

-- ---- the first item of which a fact does not hold

record FirstFailing {A : Type 0} (P : A → Type 0) (xs : List A) : Type 0 where
  place : ℕ
  at : A
  here : slice_get xs place ≡ Some at
  fails : P at → ⊥
  before : (j : ℕ) (b : A) → j < place → slice_get xs j ≡ Some b → P b

abbrev AllAt : {A : Type 0} → (A → Type 0) → List A → Type 0
AllAt {A} P xs = (j : ℕ) (b : A) → slice_get xs j ≡ Some b → P b

first_failing : {A : Type 0} (P : A → Type 0) → ((a : A) → Decided (P a)) → (xs : List A) → AllAt P xs ⊎ FirstFailing P xs
first_failing P decided [] = inl (λ j b e. absurd (none-some b e))
first_failing {A} P decided (x ∷ xs) = go (decided x) (first_failing P decided xs)
  where
    all : P x → AllAt P xs → AllAt P (x ∷ xs)
    all p rest zero b e = subst P (same_Some x b e) p
    all p rest (suc j) b e = rest j b e

    earlier : P x → (f : FirstFailing P xs) → (j : ℕ) (b : A) → j < suc f.place → slice_get (x ∷ xs) j ≡ Some b → P b
    earlier p f zero b l e = subst P (same_Some x b e) p
    earlier p f (suc j) b l e = f.before j b (omega (arith, l)) e

    go : Decided (P x) → AllAt P xs ⊎ FirstFailing P xs → AllAt P (x ∷ xs) ⊎ FirstFailing P (x ∷ xs)
    go (inr n) rest = inr (record {
      place = 0;
      at = x;
      here = refl;
      fails = n;
      before = λ j b l e. absurd (omega (arith, l));
    })
    go (inl p) (inl rest) = inl (all p rest)
    go (inl p) (inr f) = inr (record {
      place = suc f.place;
      at = f.at;
      here = f.here;
      fails = f.fails;
      before = earlier p f;
    })

-- ---- one rule

module _ (code : Code) where
  keeps_or_first : (r : Rule) → KeepsRule code r ⊎ FirstFailing (KeptAt code r) (lines_of code)
  keeps_or_first r = by (first_failing (KeptAt code r) (kept_or_not code r) (lines_of code))
    where
      by : AllAt (KeptAt code r) (lines_of code) ⊎ FirstFailing (KeptAt code r) (lines_of code)
          → KeepsRule code r ⊎ FirstFailing (KeptAt code r) (lines_of code)
      by (inl all) = inl (λ l. reach code r (λ j. Unit {0}) (λ j m w e. all j m e) l (λ j e. tt))
      by (inr f) = inr f

  -- ---- all rules, in order

  abbrev KeepsBelow : ℕ → Type 0
  KeepsBelow n = (lesser : Rule) → rule_number lesser < n → KeepsRule code lesser

  abbrev Breaks : Type 0
  Breaks = (r : Rule) × (n : ℕ) × IsFirstBroken code r n

  first_broken : (r : Rule) → KeepsBelow (rule_number r) → (f : FirstFailing (KeptAt code r) (lines_of code))
      → IsFirstBroken code r (f.place + 2)
  first_broken r below f = record {
    at = f.at;
    numbered = number_at code f.place f.at f.here;
    is_broken = f.fails;
    least = below;
    first = λ l less. reach code r (λ j. j < f.place) (λ j m w e. f.before j m w e) l (λ j e. omega (arith, e, less));
  }

  next_rule : (n : ℕ) → KeepsBelow n → (rule_number (rule_of n) ≡ n) ⊎ (rule_number (rule_of n) ≢ n)
      → KeepsBelow (suc n) ⊎ Breaks
  next_rule n below (inr none) = inl (λ r l. by r l (cases_lt (rule_number r) n))
    where
      by : (r : Rule) → rule_number r < suc n → (rule_number r < n) ⊎ (n ≤ rule_number r) → KeepsRule code r
      by r l (inl less) = below r less
      by r l (inr more) =
          let is : rule_number r ≡ n = omega (arith, l, more) in
          absurd (none (ap rule_number (ap rule_of (sym is) ∙ rule_back r) ∙ is))
  next_rule n below (inl numbered) = by (keeps_or_first (rule_of n))
    where
      next : KeepsRule code (rule_of n) → (r : Rule) → rule_number r < suc n → (rule_number r < n) ⊎ (n ≤ rule_number r)
          → KeepsRule code r
      next keeps r l (inl less) = below r less
      next keeps r l (inr more) = subst (KeepsRule code) (same_rule (rule_of n) r (omega (arith, numbered, l, more))) keeps

      by : KeepsRule code (rule_of n) ⊎ FirstFailing (KeptAt code (rule_of n)) (lines_of code) → KeepsBelow (suc n) ⊎ Breaks
      by (inl keeps) = inl (λ r l. next keeps r l (cases_lt (rule_number r) n))
      by (inr f) =
          inr (rule_of n, f.place + 2, first_broken (rule_of n) (λ lesser l. below lesser (omega (arith, l, numbered))) f)

  up_to : (n : ℕ) → KeepsBelow n ⊎ Breaks
  up_to zero = inl (λ r l. absurd (omega (arith, l)))
  up_to (suc n) = by (up_to n)
    where
      by : KeepsBelow n ⊎ Breaks → KeepsBelow (suc n) ⊎ Breaks
      by (inl below) = next_rule n below (same_number (rule_number (rule_of n)) n)
      by (inr broken) = inr broken

pub some_outcome : SomeOutcome
some_outcome code = by (up_to code 15)
  where
    by : KeepsBelow code 15 ⊎ Breaks code → IsChecked code ⊎ ((r : Rule) × (n : ℕ) × IsFirstBroken code r n)
    by (inl below) = inl (λ r. below r (at_most r))
    by (inr broken) = inr broken
