-- The front of a text: the one separator, comment, token or error that it begins with. Lexing.antt repeats it to the end.
use Rattle.std.specs.Prelude.{◌≡◌, ℕ, ◌<◌, ◌≤◌, ◌==◌, if◌then◌else◌, List, [], ◌∷◌, length}
use Rattle.rgo_lexer.specs.Bytes.{is_blank, is_letter, is_digit}
use Rattle.rgo_lexer.specs.Words.{word_at_front}
use Rattle.rgo_lexer.specs.Numbers.{number_at}
use Rattle.rgo_lexer.specs.Strings.{string_at}
use Rattle.rgo_lexer.specs.Comments.{begins_comment, comment_at}
use Rattle.rgo_lexer.specs.Operators.{operator_at}
use Rattle.rgo_lexer.specs.declared.front.Front.{Front}
use Rattle.rgo_lexer.specs.declared.front.Front.TheVariants.{End, Blank, Newline, Piece, Refused}

-- `front_of text`: the front, as long as its form allows; the first bytes determine the form
unfoldable pub front_of : List ℕ → Front
front_of [] = End
front_of (b ∷ rest) =
    if is_blank b then Blank 1
    else (if b == 10 then Newline 1
    else (if is_letter b then word_at_front (b ∷ rest)
    else (if is_digit b then number_at (b ∷ rest)
    else (if b == 34 then string_at (b ∷ rest)
    else (if begins_comment (b ∷ rest) then comment_at (b ∷ rest)
    else operator_at (b ∷ rest))))))

-- n is at least one and at most the length of the text
pub record IsWidthIn (text : List ℕ) (n : ℕ) : Type 0 where
  pub some : 0 < n
  pub within : n ≤ length text

-- The bytes of a separator or a token, or the reported byte of an error, lie within the text. A width is never 0, so lexing ends.
abbrev pub FitsIn : List ℕ → Front → Type 0
FitsIn text End = text ≡ []
FitsIn text (Blank n) = IsWidthIn text n
FitsIn text (Newline n) = IsWidthIn text n
FitsIn text (Piece terminal n) = IsWidthIn text n
FitsIn text (Refused kind offset) = offset < length text
