-- Laws of every list of lexemes: it is a program with exactly one tree, or has exactly one first bad lexeme.
use Rattle.std.specs.Prelude.{◌≡◌, ℕ, ◌⊎◌, List}
use Rattle.rgo_ast.specs.Tree.{Import, Decl}
use Rattle.rgo_lexer.specs.Lexemes.{Lexeme}
use Rattle.rgo_grammar.specs.Grammar.{IsProgram}
use Rattle.rgo_grammar.specs.FirstBad.{IsFirstBad}

-- a list has at most one tree
abbrev pub OneTree : Type 0
OneTree = (l : List Lexeme) (imports imports' : List Import) (decls decls' : List Decl)
    → IsProgram l imports decls → IsProgram l imports' decls'
    → (imports ≡ imports') × (decls ≡ decls')

abbrev pub OneFirstBad : Type 0
OneFirstBad = (l : List Lexeme) (k j : ℕ) → IsFirstBad l k → IsFirstBad l j → k ≡ j

-- no list is a program and also has a first bad lexeme
abbrev pub NeverProgramAndBad : Type 0
NeverProgramAndBad = (l : List Lexeme) (imports : List Import) (decls : List Decl) (k : ℕ)
    → IsProgram l imports decls → IsFirstBad l k → ⊥

-- each list is a program or has a first bad lexeme
abbrev pub ProgramOrBad : Type 0
ProgramOrBad = (l : List Lexeme)
    → ((imports : List Import) × (decls : List Decl) × IsProgram l imports decls)
    ⊎ ((k : ℕ) × IsFirstBad l k)
