-- What the two walks find out. The second walk begins after the package variables: no rule after the first is about the lines before.
use Rattle.std.proofs.Common.{◌≡◌, ℕ, ◌+◌, ◌<◌, ◌≤◌, List, [], ◌∷◌, ◌++◌, length, None, sym, ◌∙◌, subst, refl, arith, ◌⊎◌, inl, inr, length-append, append_assoc, MatchOption}
use Rattle.std.proofs.lemmas.Bool.{cases_lt}
use Rattle.std.proofs.lemmas.Option.{none-some}
use Rattle.rgo_code.specs.declared.rules.Line.{Line}
use Rattle.rgo_code.specs.declared.rules.Line.TheVariants.{Struct as StructLine, Variable as VariableLine, AfterLast}
use Rattle.rgo_code.specs.declared.rules.Rule.{Rule}
use Rattle.rgo_code.specs.declared.rules.Rule.TheVariants as rule
use Rattle.rgo_code.specs.Checked.{KeepsRule, IsChecked, IsFirstBroken, rule_number}
use Rattle.rgo_code.specs.Code.{Code}
use Rattle.rgo_checker.specs.declared.scan.Scan.{Scan}
use Rattle.rgo_checker.specs.Lines.{struct_lines, variable_lines, functions_lines, lines_of}
use Rattle.rgo_checker.specs.Scan.{IsKept, Scanned, Walks, past_next_line}
use Rattle.rgo_checker.specs.Sizes.{HasNumbers}
use Rattle.rgo_checker.proofs.Getting.{IsIn, get_split, first_inv}
use Rattle.rgo_checker.proofs.walks.Reaching.{structs_long, variables_long}
use Rattle.rgo_checker.proofs.walks.Scanning.{walks_line, outcome}

-- ---- rules by number

pub at_least : (r : Rule) → 1 ≤ rule_number r
at_least rule.Exists = omega arith
at_least _ = omega arith

pub at_most : (r : Rule) → rule_number r < 15
at_most rule.Exists = omega arith
at_most _ = omega arith

is_first : (r : Rule) → rule_number r < 2 → r ≡ rule.Exists
is_first rule.Exists h = refl
is_first _ h = absurd (omega (arith, h))

-- ---- the first walk

begins : (code : Code) (from to : ℕ) → Scanned code from to [] (record { line = 2; limit = to; broken = None })
begins code from to = record { line = omega arith; kept = λ r place l low high e. absurd (none-some l e); broken = refl }

pub existence : (code : Code) (s t u v : Scan)
    → HasNumbers code → Walks code 1 2 (struct_lines code.structs) (record { line = 2; limit = 2; broken = None }) s
    → Walks code 1 2 (variable_lines code.variables) s t → Walks code 1 2 (functions_lines 0 code.functions) t u
    → Walks code 1 2 (AfterLast ∷ []) u v
    → MatchOption v.broken (KeepsRule code rule.Exists) (λ x. IsFirstBroken code x.rule x.line)
existence code s t u v few p q r z =
    outcome code 1 2 v whole few (λ all. all rule.Exists (omega arith) (omega arith))
    (λ lesser l. absurd (omega (arith, l, at_least lesser)))
  where
    together : (a b c d : List Line) → ((a ++ b) ++ c) ++ d ≡ a ++ (b ++ (c ++ d))
    together a b c d = append_assoc (a ++ b) c d ∙ append_assoc a b (c ++ d)

    structs : List Line
    structs = struct_lines code.structs

    variables : List Line
    variables = variable_lines code.variables

    functions : List Line
    functions = functions_lines 0 code.functions

    whole : Scanned code 1 2 (lines_of code) v
    whole =
        subst (λ ls. Scanned code 1 2 ls v) (together structs variables functions (AfterLast ∷ []))
        (z.walks ((structs ++ variables) ++ functions) (r.walks (structs ++ variables)
        (q.walks structs (p.walks [] (begins code 1 2)))))

-- ---- the second walk, which begins after the package variables

struct_kept : (code : Code) (r : Rule) (n : ℕ) → 2 ≤ rule_number r → IsKept code r (StructLine n)
unfolding IsKept
struct_kept code rule.Exists n h = absurd (omega (arith, h))
struct_kept code _ n h = λ s e. tt

variable_kept : (code : Code) (r : Rule) (n : ℕ) → 2 ≤ rule_number r → IsKept code r (VariableLine n)
unfolding IsKept
variable_kept code rule.Exists n h = absurd (omega (arith, h))
variable_kept code _ n h = λ v e. tt

last_kept : (code : Code) (r : Rule) → 2 ≤ rule_number r → IsKept code r AfterLast
unfolding IsKept
last_kept code rule.Exists h = absurd (omega (arith, h))
last_kept code _ h = tt

abbrev first_of : Code → List Line
first_of code = struct_lines code.structs ++ variable_lines code.variables

begins_later : (code : Code) (line : ℕ) → HasNumbers code → line ≡ length code.structs + length code.variables + 2
    → Scanned code 2 15 (first_of code) (record { line = line; limit = 15; broken = None })
begins_later code line few e = record {
  line = omega (
    arith,
    few,
    e,
    structs_long code.structs,
    variables_long code.variables,
    length-append (struct_lines code.structs) (variable_lines code.variables),
  );
  kept = λ r place l low high q. go r place l low
      (get_split (struct_lines code.structs) (variable_lines code.variables) place l q);
  broken = refl;
}
  where
    go : (r : Rule) (place : ℕ) (l : Line) → 2 ≤ rule_number r
        → IsIn (struct_lines code.structs) (variable_lines code.variables) place l → IsKept code r l
    go r place l low (inl q) =
        subst (IsKept code r) (first_inv StructLine (length code.structs) place l q).1 (struct_kept code r place low)
    go r place l low (inr (j, h, q)) =
        subst (IsKept code r) (first_inv VariableLine (length code.variables) j l q).1 (variable_kept code r j low)

pub rules : (code : Code) (line : ℕ) (s : Scan) → HasNumbers code → KeepsRule code rule.Exists
    → line ≡ length code.structs + length code.variables + 2
    → Walks code 2 15 (functions_lines 0 code.functions) (record { line = line; limit = 15; broken = None }) s
    → MatchOption s.broken (IsChecked code) (λ x. IsFirstBroken code x.rule x.line)
rules code line s few exists e p =
    outcome code 2 15 (past_next_line s None) whole few (λ all r. each all r (cases_lt (rule_number r) 2))
    (λ lesser l. subst (KeepsRule code) (sym (is_first lesser l)) exists)
  where
    together : (a b c d : List Line) → ((a ++ b) ++ c) ++ d ≡ a ++ (b ++ (c ++ d))
    together a b c d = append_assoc (a ++ b) c d ∙ append_assoc a b (c ++ d)

    functions : List Line
    functions = functions_lines 0 code.functions

    whole : Scanned code 2 15 (lines_of code) (past_next_line s None)
    whole =
        subst (λ ls. Scanned code 2 15 ls (past_next_line s None))
        (together (struct_lines code.structs) (variable_lines code.variables) functions (AfterLast ∷ []))
        ((walks_line code 2 15 AfterLast s None (λ few r low high. last_kept code r low)).walks
        (first_of code ++ functions)
        (p.walks (first_of code) (begins_later code line few e)))

    each : ((r : Rule) → 2 ≤ rule_number r → rule_number r < 15 → KeepsRule code r) → (r : Rule)
        → (rule_number r < 2) ⊎ (2 ≤ rule_number r) → KeepsRule code r
    each all r (inl q) = subst (KeepsRule code) (sym (is_first r q)) exists
    each all r (inr q) = all r q (at_most r)
