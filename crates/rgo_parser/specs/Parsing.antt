-- What `parse` decides about a list of lexemes: `IsParsed`, or a refusal with the first lexeme that is wrong. The number of a lexeme
-- counts those before it; the number of all lexemes means the end of the text, where the next lexeme is missing.
use Rattle.std.specs.Prelude.{◌≡◌, ℕ, ◌+◌, List, take, None, Some}
use Rattle.rgo_ast.specs.Tree.{Program}
use Rattle.rgo_lexer.specs.Lexemes.{Lexeme}
use Rattle.rgo_grammar.specs.Grammar.{IsProgram}
use Rattle.rgo_grammar.specs.FirstBad.{Begins, IsFirstBad}
use Rattle.rgo_grammar.specs.Nesting.{deep_at, NotBefore}
use Rattle.rgo_parser.specs.declared.parser.ParseRefusal.{ParseRefusal}
use Rattle.rgo_parser.specs.declared.parser.ParseRefusal.TheVariants as refusal
use Rattle.rgo_parser.specs.declared.parser.ParseError.{ParseError}
use Rattle.rgo_parser.specs.declared.parser.ParseError.TheVariants as error

-- the greatest depth of nesting; the recursion of the parser and of every later pass is bounded by it
abbrev pub limit : ℕ
limit = 200

-- the lexemes are this program, within the limit on nesting; `end` is the length of the text
pub record IsParsed (end : ℕ) (lexemes : List Lexeme) (program : Program) : Type 0 where
  pub derived : IsProgram lexemes program.imports program.decls
  pub ended : program.end ≡ end
  pub shallow : deep_at limit lexemes ≡ None

-- the k-th lexeme is the first that cannot continue any program, and none before it nests too deep
pub record IsSyntax (lexemes : List Lexeme) (k : ℕ) : Type 0 where
  pub bad : IsFirstBad lexemes k
  pub shallow : NotBefore (deep_at limit lexemes) k

-- The k-th lexeme is the first that nests too deep, and some program begins with the lexemes up to it: if it is bad as well, syntax is
-- reported, so that a refusal for nesting always means that the text was valid so far.
pub record IsTooDeep (lexemes : List Lexeme) (k : ℕ) : Type 0 where
  pub deep : deep_at limit lexemes ≡ Some k
  pub begun : Begins (take (k + 1) lexemes)

-- what a refusal claims of the lexemes: the first that is bad, or the first that nests too deep
abbrev pub RefusesLexemes : List Lexeme → ParseRefusal → Type 0
RefusesLexemes lexemes (refusal.Syntax at) = IsSyntax lexemes at
RefusesLexemes lexemes (refusal.TooDeep at) = IsTooDeep lexemes at

-- what an error means: it is a refusal of the lexemes, unless memory ran out
abbrev pub Fails : List Lexeme → ParseError → Type 0
Fails lexemes error.NoMemory = Unit {0}
Fails lexemes (error.Refused r) = RefusesLexemes lexemes r
