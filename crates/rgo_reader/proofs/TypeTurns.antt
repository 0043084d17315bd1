-- One turn of each reader of names and types, at a number of turns that is not 0.
use Rattle.std.proofs.Common.{◌≡◌, ℕ, suc, ◌-◌, ◌<◌, List, refl, ap, arith}
use Rattle.rgo_ast.specs.declared.types.TypeExpr as code
use Rattle.rgo_ast.specs.declared.names.Ident.{Ident}
use Rattle.rgo_lexer.specs.Lexemes.{Lexeme}
use Rattle.rgo_grammar.specs.reading.Read.{Failed, Starving, next_lexeme}
use Rattle.rgo_grammar.specs.reading.Types.{a_type, type_on, names, names_on}

pub turn : (n : ℕ) → 0 < n → n ≡ suc (n - 1)
turn n h = omega arith

pub type_more : (n : ℕ) (l : List Lexeme) → 0 < n → a_type n l ≡ type_on (a_type (n - 1)) l (next_lexeme l)
unfolding a_type
type_more n l h = ap (λ m. a_type m l) (turn n h)

pub type_starved : (n : ℕ) (l : List Lexeme) → n ≡ 0 → a_type n l ≡ Failed Starving
unfolding a_type
type_starved n l e = rw e refl

pub names_more : (n : ℕ) (found : List Ident) (l : List Lexeme) → 0 < n → names n found l ≡ names_on (names (n - 1)) found l (next_lexeme l)
unfolding names
names_more n found l h = ap (λ m. names m found l) (turn n h)

pub names_starved : (n : ℕ) (found : List Ident) (l : List Lexeme) → n ≡ 0 → names n found l ≡ Failed Starving
unfolding names
names_starved n found l e = rw e refl

pub ruleset type_turns = (type_more, type_starved, code.the_lemmas)

pub ruleset name_turns = (names_more, names_starved)
