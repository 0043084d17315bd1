-- `LexesAs text lexemes`: the lexemes that the specification assigns to a text. Refusals.antt is its counterpart for the other texts. It
-- is a relation and not a function, which would retrace the loop of the lexer. Why: docs/DECISIONS.md, "The forms of the definitions".
use Rattle.std.specs.Prelude.{◌≡◌, ℕ, ◌+◌, ◌<◌, ◌≤◌, ◌⊎◌, ◌==◌, List, [], ◌∷◌, ◌++◌, length, take, drop, codes, Option, None, Some, if◌then◌else◌, slice_range}
use Rattle.std.specs.Str.{IsUtf8, bytes_eq}
use Rattle.rgo_lexer.specs.Bytes.{has_prefix}
use Rattle.rgo_lexer.specs.Front.{front_of}
use Rattle.rgo_lexer.specs.Lexemes.{Lexeme, leaf, tok, lexeme_end}
use Rattle.rgo_lexer.specs.Semicolons.{ending_after, inserted}
use Rattle.rgo_lexer.specs.declared.front.Front.{Front}
use Rattle.rgo_lexer.specs.declared.front.Front.TheVariants.{End, Blank, Newline, Piece}
use Rattle.rgo_lexer.specs.declared.terminals.Terminal.{Terminal}
use Rattle.rgo_lexer.specs.declared.terminals.Terminal.TheVariants.{Main, Semicolon}

-- The lexemes of a text from byte `at` on, where `rest` is the remaining text. `ending` is where the last token ended, if the end of
-- its line inserts a `;` there.
pub data LexesFrom : ℕ → Option ℕ → List ℕ → List Lexeme → Type 0 where
  finish : {at : ℕ} {ending : Option ℕ} {rest : List ℕ} → front_of rest ≡ End
      → LexesFrom at ending rest (inserted ending)
  blank : {at : ℕ} {ending : Option ℕ} {rest : List ℕ} {lexemes : List Lexeme} (n : ℕ)
      → front_of rest ≡ Blank n
      → LexesFrom (at + n) ending (drop n rest) lexemes → LexesFrom at ending rest lexemes
  newline : {at : ℕ} {ending : Option ℕ} {rest : List ℕ} {lexemes : List Lexeme} (n : ℕ)
      → front_of rest ≡ Newline n
      → LexesFrom (at + n) None (drop n rest) lexemes
      → LexesFrom at ending rest (inserted ending ++ lexemes)
  piece : {at : ℕ} {ending : Option ℕ} {rest : List ℕ} {lexemes : List Lexeme}
      (terminal : Terminal) (n : ℕ) → front_of rest ≡ Piece terminal n
      → LexesFrom (at + n) (ending_after terminal (take n rest) (at + n)) (drop n rest) lexemes
      → LexesFrom at ending rest (tok terminal (leaf at (take n rest)) ∷ lexemes)

-- the byte order mark in UTF-8
abbrev pub byte_order_mark : List ℕ
byte_order_mark = 0xEF ∷ 0xBB ∷ 0xBF ∷ []

-- where lexing begins: after a byte order mark at the very front
abbrev pub text_start : List ℕ → ℕ
text_start text = if has_prefix text byte_order_mark then 3 else 0

-- the word `main` as the name of the package
abbrev pub package_name : Lexeme → Lexeme
package_name l = if bytes_eq l.leaf.word (codes "main") then tok Main l.leaf else l

-- the second lexeme of a text is the name of the package; it is the only lexeme whose terminal depends on its position
abbrev pub with_package_name : List Lexeme → List Lexeme
with_package_name [] = []
with_package_name (l ∷ []) = l ∷ []
with_package_name (l ∷ m ∷ lexemes) = l ∷ package_name m ∷ lexemes

-- the lexemes of a whole text
abbrev pub LexesAs : List ℕ → List Lexeme → Type 0
LexesAs text lexemes =
    IsUtf8 text × (found : List Lexeme)
    × LexesFrom (text_start text) None (drop (text_start text) text) found
    × (lexemes ≡ with_package_name found)

-- the terminal of a front that is a token of n bytes
abbrev pub terminal_at_width : ℕ → Front → Option Terminal
terminal_at_width n (Piece terminal width) = if width == n then Some terminal else None
terminal_at_width n _ = None

-- the terminal of a word that is a token by itself
unfoldable pub terminal_of : List ℕ → Option Terminal
terminal_of word = terminal_at_width (length word) (front_of word)

-- a lexeme with this word may have this terminal: that of the word as a token by itself, or that of the package's name for `main`
abbrev pub IsSpelled : Terminal → List ℕ → Type 0
IsSpelled terminal word =
    (terminal_of word ≡ Some terminal) ⊎ ((terminal ≡ Main) × (word ≡ codes "main"))

-- a lexeme of a text: an inserted `;`, or a part of the text that is a token by itself
pub record IsLexemeOf (text : List ℕ) (l : Lexeme) : Type 0 where
  pub within : lexeme_end l ≤ length text
  pub bytes : l.leaf.word ≡ slice_range text l.leaf.at (lexeme_end l)
  pub spelled : 0 < length l.leaf.word → IsSpelled l.terminal l.leaf.word
  pub inserted : length l.leaf.word ≡ 0 → l.terminal ≡ Semicolon
