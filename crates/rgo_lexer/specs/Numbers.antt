-- Integer literals: their forms and their values.
use Rattle.std.specs.Prelude.{ℕ, ◌+◌, ◌*◌, Bool, true, false, ◌||◌, ◌&&◌, ◌==◌, nat_le, nat_lt, if◌then◌else◌, List, [], ◌∷◌, length, take, drop, codes, fold, filter, Option, Some, None}
use Rattle.std.specs.Char.{is_digit, digit_value}
use Rattle.std.specs.Int.{is_in_range}
use Rattle.rgo_lexer.specs.Bytes.{has_prefix}
use Rattle.rgo_lexer.specs.Words.{run_of}
use Rattle.rgo_lexer.specs.declared.terminals.Terminal.TheVariants.{Number}
use Rattle.rgo_lexer.specs.declared.front.Front.{Front}
use Rattle.rgo_lexer.specs.declared.front.Front.TheVariants.{Piece, Refused}
use Rattle.rgo_lexer.specs.declared.refusals.LexicalKind.TheVariants.{BadNumber}

-- the text begins with a digit in this base
abbrev pub begins_with_digit : ℕ → List ℕ → Bool
begins_with_digit base [] = false
begins_with_digit base (b ∷ l) = is_digit b base

-- a digit, or a `_` with a digit after it
abbrev pub may_occur : ℕ → ℕ → List ℕ → Bool
may_occur base b after = is_digit b base || (b == 95 && begins_with_digit base after)

-- digits in a base, with an optional `_` before each
abbrev pub are_digits : ℕ → List ℕ → Bool
are_digits base [] = true
are_digits base (b ∷ l) = may_occur base b l && are_digits base l

-- `0`, or a digit 1 to 9 followed by digits
abbrev pub is_decimal : List ℕ → Bool
is_decimal [] = false
is_decimal (b ∷ l) = (b == 48 && length l == 0) || (is_in_range 49 57 b && are_digits 10 l)

-- `0x` or `0X`, followed by one or more digits in base 16
abbrev pub is_hexadecimal : List ℕ → Bool
is_hexadecimal word =
    (has_prefix word (codes "0x") || has_prefix word (codes "0X"))
    && nat_lt 2 (length word)
    && are_digits 16 (drop 2 word)

-- the value of a number followed by the digits of a text in a base
abbrev pub value_after : ℕ → ℕ → List ℕ → ℕ
value_after base number text =
    fold (λ n b. n * base + digit_value b) number (filter (λ b. is_digit b base) text)

-- the value of the digits of a text in a base; a `_` is skipped
abbrev pub value_of : ℕ → List ℕ → ℕ
value_of base text = value_after base 0 text

-- the number, if it is at most the greatest `int`
abbrev pub if_fits : ℕ → Option ℕ
if_fits n = if nat_le n 9223372036854775807 then Some n else None

-- the value of a word, if it is a literal and its value is at most the greatest `int`
unfoldable pub literal_value : List ℕ → Option ℕ
literal_value word =
    if is_decimal word then if_fits (value_of 10 word)
    else (if is_hexadecimal word then if_fits (value_of 16 (drop 2 word)) else None)

-- A literal that is malformed or too large, rejected at its first byte. Its longest valid front is not a number, since the rest would
-- then be reported as a syntax error.
abbrev pub bad_number : Front
bad_number = Refused BadNumber 0

-- a literal of n bytes, by its number
abbrev pub number_front : ℕ → Option ℕ → Front
number_front n None = bad_number
number_front n (Some value) = Piece (Number value) n

-- the number at the front of a text that begins with a digit; it extends over all bytes that may occur in a word
unfoldable pub number_at : List ℕ → Front
number_at text = number_front (run_of text) (literal_value (take (run_of text) text))
