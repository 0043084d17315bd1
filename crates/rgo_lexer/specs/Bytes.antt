-- The classes of bytes that the forms of tokens and separators are made of.
use Rattle.std.specs.Prelude.{ℕ, Bool, ◌||◌, ◌&&◌, nat_le, ◌==◌, List, length, take}
use Rattle.std.specs.Str.{bytes_eq}
use Rattle.rgo_lexer.specs.declared.front.Front.{Front}
use Rattle.rgo_lexer.specs.declared.front.Front.TheVariants.{Refused}
use Rattle.rgo_lexer.specs.declared.refusals.LexicalKind.TheVariants.{BadByte}

-- space, tab and carriage return
abbrev pub is_blank : ℕ → Bool
is_blank b = b == 32 || b == 9 || b == 13

-- 0 to 9
abbrev pub is_digit : ℕ → Bool
is_digit b = nat_le 48 b && nat_le b 57

-- a letter or `_`
abbrev pub is_letter : ℕ → Bool
is_letter b = (nat_le 65 b && nat_le b 90) || (nat_le 97 b && nat_le b 122) || b == 95

-- what follows the first letter of a word: a letter, `_` or a digit
abbrev pub is_word_byte : ℕ → Bool
is_word_byte b = is_letter b || is_digit b

-- the text begins with these bytes
abbrev pub has_prefix : List ℕ → List ℕ → Bool
has_prefix text front = bytes_eq front (take (length front) text)

-- a byte that begins neither a separator nor a token
abbrev pub bad_byte : Front
bad_byte = Refused BadByte 0
