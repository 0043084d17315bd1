-- The verdict on a text: its program, or the first place at which it breaks a rule.
-- Why: docs/DECISIONS.md, "Refusals".
use Rattle.std.specs.Prelude.{◌≡◌, ℕ, ◌<◌, ◌≤◌, ◌⊎◌, List, length, Some, None}
use Rattle.rgo_lexer.specs.Lexemes.{Lexeme}
use Rattle.rgo_lexer.specs.Lexing.{LexesAs}
use Rattle.rgo_lexer.specs.Refusals.{LexRefuses}
use Rattle.rgo_ast.specs.Tree.{Program}
use Rattle.rgo_parser.specs.Parsing.{IsParsed, RefusesLexemes}
use Rattle.rgo_parser.specs.declared.parser.ParseRefusal.{ParseRefusal}
use Rattle.rgo_parser.specs.declared.parser.ParseRefusal.TheVariants as parse
use Rattle.rgo_typing_rules.specs.Sites.{first_refusal}
use Rattle.rgo_typing_rules.specs.declared.errors.TypeRefusal.{TypeRefusal}
use Rattle.rgo_typed.specs.Tree.{Typed}
use Rattle.rgo_types.specs.Programs.{sites_of, typed_program}
use Rattle.rgo_run.specs.declared.refusals.TextRefusal.{TextRefusal}
use Rattle.rgo_run.specs.declared.refusals.TextRefusal.TheVariants.{TooLong, Lexical, Syntax, Nesting, Typing}
use Rattle.rgo_run.specs.Positions.{lexeme_place}

-- the greatest length of a text, in bytes
abbrev pub text_limit : ℕ
text_limit = 1048576

-- the text is within the limit, and its lexemes parse to this tree
pub record IsTree (text : List ℕ) (tree : Program) : Type 0 where
  pub within : length text ≤ text_limit
  pub lexemes : List Lexeme
  pub lexed : LexesAs text lexemes
  pub parsed : IsParsed (length text) lexemes tree

-- the text parses to this tree, and no node of it breaks a typing rule
pub record IsWellTyped (text : List ℕ) (tree : Program) : Type 0 where
  pub is_tree : IsTree text tree
  pub unbroken : first_refusal (sites_of tree) ≡ None

-- the text is a valid program
abbrev pub IsValidProgram : List ℕ → Type 0
IsValidProgram text = (tree : Program) × IsWellTyped text tree

-- the text is valid, and the program is its typed tree
pub record IsTypedProgram (text : List ℕ) (program : Typed) : Type 0 where
  pub tree : Program
  pub is_well_typed : IsWellTyped text tree
  pub typed : program ≡ typed_program tree

-- the text is within the limit, and its lexemes are rejected at the lexeme with this number, which begins at this place
pub record IsRefused (text : List ℕ) (refusal : ParseRefusal) (number : ℕ) (at : ℕ) : Type 0 where
  pub within : length text ≤ text_limit
  pub lexemes : List Lexeme
  pub lexed : LexesAs text lexemes
  pub refused : RefusesLexemes lexemes refusal
  pub place : at ≡ lexeme_place text lexemes number

-- The text parses to a tree, and a node of it breaks a typing rule. The refusal is that of the first such node in the order of
-- checking, and of the first rule that this node breaks.
pub record IsMistyped (text : List ℕ) (refusal : TypeRefusal) : Type 0 where
  pub tree : Program
  pub is_tree : IsTree text tree
  pub broken : first_refusal (sites_of tree) ≡ Some refusal

-- `Refused text r`: `r` is the reason why the text is rejected, at the first place at which it breaks a rule
abbrev pub Refused : List ℕ → TextRefusal → Type 0
Refused text TooLong = text_limit < length text
Refused text (Lexical refusal) = (length text ≤ text_limit) × LexRefuses text refusal
Refused text (Syntax at) = (k : ℕ) × IsRefused text (parse.Syntax k) k at
Refused text (Nesting at) = (k : ℕ) × IsRefused text (parse.TooDeep k) k at
Refused text (Typing refusal) = IsMistyped text refusal

-- Each text is at most one program, and is valid or has one refusal, never both. So the definitions leave a compiler no choice of what
-- it accepts, or of what it reports.
pub record OneVerdict : Type 0 where
  pub one_program : (text : List ℕ) (p q : Typed) → IsTypedProgram text p → IsTypedProgram text q → p ≡ q
  pub one_refusal : (text : List ℕ) (a b : TextRefusal) → Refused text a → Refused text b → a ≡ b
  pub never_both : (text : List ℕ) (a : TextRefusal) → IsValidProgram text → Refused text a → ⊥
  pub one_of_both : (text : List ℕ) → IsValidProgram text ⊎ ((a : TextRefusal) × Refused text a)
