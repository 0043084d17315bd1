-- Places of a text: the place of a lexeme by its number, and the line and column of a place.
use Rattle.std.specs.Prelude.{ℕ, ◌+◌, ◌==◌, Bool, not, List, length, take, None, Some, count_by}
use Rattle.std.specs.List.{suffix_len, slice_get}
use Rattle.rgo_lexer.specs.Lexemes.{Lexeme}
use Rattle.rgo_run.specs.declared.positions.Position.{Position}

-- any byte but a newline; a tab or a carriage return takes one column, as does each byte of a longer character
abbrev pub is_in_line : ℕ → Bool
is_in_line b = not (b == 10)

-- the line is 1 plus the newlines before the place; the column is 1 plus the bytes since the last of them
abbrev pub position_of : List ℕ → ℕ → Position
position_of text place = record {
  line = 1 + count_by (λ b. b == 10) (take place text);
  column = 1 + suffix_len is_in_line (take place text);
}

-- where the lexeme with this number begins; the number of all lexemes means the end of the text
abbrev pub lexeme_place : List ℕ → List Lexeme → ℕ → ℕ
lexeme_place text lexemes k = elim (slice_get lexemes k) [ None ↦ length text | Some l ↦ l.leaf.at ]
