-- `LexRefuses text refusal`: the first lexical error of a text. A text with one has no lexemes.
use Rattle.std.specs.Prelude.{◌≡◌, ℕ, ◌+◌, ◌<◌, ◌⊎◌, List, length, drop, Option, None, Some}
use Rattle.std.specs.Str.{IsUtf8}
use Rattle.std.specs.Str.Lossy.{utf8_valid_len}
use Rattle.rgo_lexer.specs.Front.{front_of}
use Rattle.rgo_lexer.specs.Lexing.{text_start}
use Rattle.rgo_lexer.specs.declared.front.Front.{Front}
use Rattle.rgo_lexer.specs.declared.front.Front.TheVariants.{Blank, Newline, Piece, Refused}
use Rattle.rgo_lexer.specs.declared.refusals.LexicalKind.{LexicalKind}
use Rattle.rgo_lexer.specs.declared.refusals.LexicalKind.TheVariants.{BadUtf8}
use Rattle.rgo_lexer.specs.declared.refusals.LexRefusal.{LexRefusal}
use Rattle.rgo_lexer.specs.declared.refusals.LexError.{LexError}
use Rattle.rgo_lexer.specs.declared.refusals.LexError.TheVariants as error

-- the width of a separator or a token
abbrev pub width : Front → Option ℕ
width (Blank n) = Some n
width (Newline n) = Some n
width (Piece terminal n) = Some n
width _ = None

-- the record as a function of its parts, for the constructor below
abbrev pub refusal : LexicalKind → ℕ → LexRefusal
refusal kind at = record { kind = kind; at = at }

-- The first lexical error of a text from byte `at` on, where `rest` is the remaining text: only separators and tokens come before it.
pub data RefusesFrom : ℕ → List ℕ → LexRefusal → Type 0 where
  here : {at : ℕ} {rest : List ℕ} (kind : LexicalKind) (offset : ℕ)
      → front_of rest ≡ Refused kind offset
      → RefusesFrom at rest (refusal kind (at + offset))
  later : {at : ℕ} {rest : List ℕ} {r : LexRefusal} (n : ℕ) → width (front_of rest) ≡ Some n
      → RefusesFrom (at + n) (drop n rest) r → RefusesFrom at rest r

-- the error of a text that is not UTF-8, at the first byte after its longest valid front
abbrev pub bad_utf8 : List ℕ → LexRefusal
bad_utf8 text = refusal BadUtf8 (utf8_valid_len text)

-- The refusal of a text. One that is not UTF-8 is rejected for that, whatever else is wrong with it: the place of an earlier error would
-- depend on bytes that are not text.
abbrev pub LexRefuses : List ℕ → LexRefusal → Type 0
LexRefuses text r =
    (IsUtf8 text × RefusesFrom (text_start text) (drop (text_start text) text) r)
    ⊎ ((¬ (IsUtf8 text)) × (r ≡ bad_utf8 text))

-- what an error of the lexer means for the text from a byte on: its refusal, unless memory ran out
abbrev pub FailsFrom : ℕ → List ℕ → LexError → Type 0
FailsFrom at rest error.NoMemory = Unit {0}
FailsFrom at rest (error.Refused r) = RefusesFrom at rest r

-- the same for a whole text
abbrev pub LexFails : List ℕ → LexError → Type 0
LexFails text error.NoMemory = Unit {0}
LexFails text (error.Refused r) = LexRefuses text r

-- the place of a refusal lies within the text
abbrev pub IsPlacedIn : List ℕ → LexError → Type 0
IsPlacedIn text error.NoMemory = Unit {0}
IsPlacedIn text (error.Refused r) = r.at < length text
