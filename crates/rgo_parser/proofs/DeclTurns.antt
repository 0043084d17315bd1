-- One turn of each reader of imports and declarations, at a number of turns that is not 0.
use Rattle.std.proofs.Common.{◌≡◌, ℕ, ◌-◌, ◌<◌, List, refl, ap}
use Rattle.std.proofs.lemmas.List.{map-append}
use Rattle.rgo_ast.specs.Tree.{Import, Decl}
use Rattle.rgo_lexer.specs.Lexemes.{Lexeme}
use Rattle.rgo_grammar.specs.reading.Read.{Failed, Starving, next_lexeme}
use Rattle.rgo_grammar.specs.reading.Declarations.{decls, decls_on, imports, imports_on}
use Rattle.rgo_reader.proofs.TypeTurns.{turn}

pub decls_more : (n m : ℕ) (found : List Decl) (l : List Lexeme) → 0 < m → decls n m found l ≡ decls_on n (decls n (m - 1)) found l (next_lexeme l)
unfolding decls
decls_more n m found l h = ap (λ k. decls n k found l) (turn m h)

pub decls_starved : (n m : ℕ) (found : List Decl) (l : List Lexeme) → m ≡ 0 → decls n m found l ≡ Failed Starving
unfolding decls
decls_starved n m found l e = rw e refl

pub imports_more : (n m : ℕ) (found : List Import) (l : List Lexeme) → 0 < m → imports n m found l ≡ imports_on n (imports n (m - 1)) found l (next_lexeme l)
unfolding imports
imports_more n m found l h = ap (λ k. imports n k found l) (turn m h)

pub imports_starved : (n m : ℕ) (found : List Import) (l : List Lexeme) → m ≡ 0 → imports n m found l ≡ Failed Starving
unfolding imports
imports_starved n m found l e = rw e refl

pub ruleset decl_turns = (map-append, decls_more, decls_starved)

pub ruleset import_turns = (map-append, imports_more, imports_starved)
