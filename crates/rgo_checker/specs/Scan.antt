-- What is known after a walk over lines: the least rule that they break, and the first line that breaks it.
use Rattle.std.specs.Prelude.{◌≡◌, ◌<◌, ◌≤◌, ◌+◌, ◌-◌, ◌^◌, min, ℕ, List, ◌++◌, length, Option, Some, None, slice_get}
use Rattle.rgo_code.specs.declared.rules.CodeRefusal.{CodeRefusal}
use Rattle.rgo_code.specs.declared.rules.Line.{Line}
use Rattle.rgo_code.specs.declared.rules.Rule.{Rule}
use Rattle.rgo_code.specs.Checked.{KeptAt, rule_number}
use Rattle.rgo_code.specs.Code.{Code}
use Rattle.rgo_checker.specs.declared.scan.Scan.{Scan}

-- The rule is kept at the line. It unfolds only where a proof asks for it: over all rules and kinds of lines it would be large.
unfoldable pub IsKept : Code → Rule → Line → Type 0
IsKept code rule line = KeptAt code rule line

-- the rules with numbers from `from` up to but not `to` are kept at these lines
abbrev pub AreKept : Code → (from to : ℕ) → List Line → Type 0
AreKept code from to lines =
    (rule : Rule) (place : ℕ) (l : Line) → from ≤ rule_number rule → rule_number rule < to
    → slice_get lines place ≡ Some l → IsKept code rule l

-- the number of the line at a place, if that has 32 bits; the first has the number 2
abbrev pub line_number_at : ℕ → ℕ
line_number_at place = min (place + 2) (2 ^ 32 - 1)

-- the line of this number is the first of these that breaks the rule
pub record BreaksFirst (code : Code) (lines : List Line) (rule : Rule) (number : ℕ) : Type 0 where
  pub place : ℕ
  pub at : Line
  pub there : slice_get lines place ≡ Some at
  pub numbered : number ≡ line_number_at place
  pub is_broken : IsKept code rule at → ⊥
  pub first : (before : ℕ) (l : Line) → before < place → slice_get lines before ≡ Some l → IsKept code rule l

-- the least broken rule is x, which bounds the rules that are still looked at
pub record IsBroken (code : Code) (from to : ℕ) (lines : List Line) (limit : ℕ) (x : CodeRefusal) : Type 0 where
  pub limit_is : limit ≡ rule_number x.rule
  pub low : from ≤ limit
  pub high : limit < to
  pub breaks : BreaksFirst code lines x.rule x.line

abbrev pub BrokenIs : Code → (from to : ℕ) → List Line → (limit : ℕ) → Option CodeRefusal → Type 0
BrokenIs code from to lines limit None = limit ≡ to
BrokenIs code from to lines limit (Some x) = IsBroken code from to lines limit x

-- these lines were walked over, with the rules with numbers from `from` up to but not `to`
pub record Scanned (code : Code) (from to : ℕ) (lines : List Line) (s : Scan) : Type 0 where
  pub line : s.line ≡ line_number_at (length lines)
  pub kept : AreKept code from s.limit lines
  pub broken : BrokenIs code from to lines s.limit s.broken

-- A walk over these lines leads from one state to another, whatever lines it has seen before: so walks over the parts of a text make
-- one over all of it.
pub record Walks (code : Code) (from to : ℕ) (lines : List Line) (old new : Scan) : Type 0 where
  pub walks : (seen : List Line) → Scanned code from to seen old → Scanned code from to (seen ++ lines) new

-- the next line is walked over, and breaks this rule
abbrev pub past_next_line : Scan → Option Rule → Scan
past_next_line s None = record { line = min (s.line + 1) (2 ^ 32 - 1); limit = s.limit; broken = s.broken }
past_next_line s (Some rule) = record {
  line = min (s.line + 1) (2 ^ 32 - 1);
  limit = rule_number rule;
  broken = Some (record { rule = rule; line = s.line });
}
