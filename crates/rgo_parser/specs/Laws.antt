-- Laws of every list of lexemes: it is exactly one program or has exactly one refusal.
use Rattle.std.specs.Prelude.{◌≡◌, ℕ, ◌⊎◌, List}
use Rattle.rgo_ast.specs.Tree.{Program}
use Rattle.rgo_lexer.specs.Lexemes.{Lexeme}
use Rattle.rgo_parser.specs.declared.parser.ParseRefusal.{ParseRefusal}
use Rattle.rgo_parser.specs.Parsing.{IsParsed, RefusesLexemes}

abbrev pub OneParseTree : Type 0
OneParseTree = (end : ℕ) (lexemes : List Lexeme) (program other : Program)
    → IsParsed end lexemes program → IsParsed end lexemes other → program ≡ other

abbrev pub OneParseRefusal : Type 0
OneParseRefusal = (lexemes : List Lexeme) (r other : ParseRefusal) → RefusesLexemes lexemes r → RefusesLexemes lexemes other → r ≡ other

-- no list is a program and also has a refusal
abbrev pub NeverParsedAndRefused : Type 0
NeverParsedAndRefused = (end : ℕ) (lexemes : List Lexeme) (program : Program) (r : ParseRefusal)
    → IsParsed end lexemes program → RefusesLexemes lexemes r → ⊥

-- each list is a program or has a refusal
abbrev pub ParsedOrRefused : Type 0
ParsedOrRefused = (end : ℕ) (lexemes : List Lexeme)
    → ((program : Program) × IsParsed end lexemes program) ⊎ ((r : ParseRefusal) × RefusesLexemes lexemes r)
