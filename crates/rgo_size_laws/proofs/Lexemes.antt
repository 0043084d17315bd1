-- A text has at most one lexeme for each byte, and one more: a token has a byte of its own, an inserted `;` has that of the newline, and
-- only the one at the end of the text has none.
use Rattle.std.proofs.Common.{◌≡◌, ℕ, ◌+◌, ◌≤◌, List, [], ◌∷◌, length, Option, None, Some, refl, sym, ap, arith, length-append, length-drop}
use Rattle.rgo_lexer.specs.Lexemes.{Lexeme}
use Rattle.rgo_lexer.specs.Semicolons.{inserted}
use Rattle.rgo_lexer.specs.Lexing.{LexesFrom, text_start, with_package_name}
use Rattle.rgo_lexer.specs.Lexing.LexesFrom.{finish, blank, newline, piece}
use Rattle.rgo_lexer.specs.declared.front.Front.TheVariants.{Newline, Piece}
use Rattle.rgo_lexer.proofs.Fronts.{fits}
use Rattle.rgo_size_laws.specs.Laws.{LexemesAreFew}

one_inserted : (ending : Option ℕ) → length (inserted ending) ≤ 1
one_inserted None = omega arith
one_inserted (Some end) = omega arith

few_from : {at : ℕ} {ending : Option ℕ} {rest : List ℕ} {lexemes : List Lexeme} → LexesFrom at ending rest lexemes
    → length lexemes ≤ length rest + 1
few_from {ending = ending} (finish e) = omega (arith, one_inserted ending)
few_from {rest = rest} (blank n e more) = omega (arith, few_from more, length-drop n rest)
few_from {ending = ending} {rest = rest} (newline {lexemes = lexemes} n e more) =
    let width = fits rest (Newline n) (sym e) in
    omega (
      arith,
      few_from more,
      one_inserted ending,
      length-append (inserted ending) lexemes,
      length-drop n rest,
      width.some,
      width.within,
    )
few_from {rest = rest} (piece terminal n e more) =
    let width = fits rest (Piece terminal n) (sym e) in
    omega (arith, few_from more, length-drop n rest, width.some, width.within)

named_many : (lexemes : List Lexeme) → length (with_package_name lexemes) ≡ length lexemes
named_many [] = refl
named_many (l ∷ []) = refl
named_many (l ∷ m ∷ lexemes) = refl

pub lexemes_few : LexemesAreFew
lexemes_few text lexemes t =
    omega (arith, ap length t.3, named_many t.1, few_from t.2, length-drop (text_start text) text)
