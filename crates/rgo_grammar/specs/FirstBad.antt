-- The first bad lexeme: the first that cannot continue any program. It is a fact about the language and not about a parser, so a user
-- can rely on it: what comes before it may be kept. Why: docs/DECISIONS.md, "Refusals".
use Rattle.std.specs.Prelude.{◌≡◌, ℕ, ◌+◌, ◌<◌, ◌≤◌, List, ◌++◌, length, take}
use Rattle.rgo_ast.specs.Tree.{Import, Decl}
use Rattle.rgo_lexer.specs.Lexemes.{Lexeme}
use Rattle.rgo_grammar.specs.Grammar.{IsProgram}

-- some program begins with these lexemes
abbrev pub Begins : List Lexeme → Type 0
Begins l =
    (w : List Lexeme) × (imports : List Import) × (decls : List Decl) × IsProgram (l ++ w) imports decls

-- Some program begins with the first k lexemes, and none with the first k + 1; or there are only k lexemes, and they are not a
-- program.
pub record IsFirstBad (l : List Lexeme) (k : ℕ) : Type 0 where
  pub within : k ≤ length l
  pub before : Begins (take k l)
  pub next : k < length l → Begins (take (k + 1) l) → ⊥
  pub all : k ≡ length l → (imports : List Import) (decls : List Decl)
      → IsProgram l imports decls → ⊥
