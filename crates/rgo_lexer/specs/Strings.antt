-- String literals: the items between their quotes, and their values.
use Rattle.std.specs.Prelude.{◌≡◌, ℕ, ◌+◌, Bool, not, ◌||◌, ◌==◌, if◌then◌else◌, List, [], ◌∷◌, length, take, drop, map, slice_index, Option, Some, None, is_some, unwrap_or}
use Rattle.std.specs.List.{concat}
use Rattle.rgo_lexer.specs.declared.terminals.Terminal.TheVariants.{Text}
use Rattle.rgo_lexer.specs.declared.front.Front.{Front}
use Rattle.rgo_lexer.specs.declared.front.Front.TheVariants.{Piece, Refused}
use Rattle.rgo_lexer.specs.declared.refusals.LexicalKind.TheVariants.{OpenString, BadEscape}

-- the value of an escape by its letter, which is one of a b f n r t v \ "
abbrev pub escaped : ℕ → Option ℕ
escaped letter =
    if letter == 97 then Some 7
    else (if letter == 98 then Some 8
    else (if letter == 102 then Some 12
    else (if letter == 110 then Some 10
    else (if letter == 114 then Some 13
    else (if letter == 116 then Some 9
    else (if letter == 118 then Some 11
    else (if letter == 92 then Some 92
    else (if letter == 34 then Some 34
    else None))))))))

-- a byte that is its own value: any but " \ and newline
abbrev pub is_plain_byte : ℕ → Bool
is_plain_byte b = not (b == 34 || b == 92 || b == 10)

abbrev mutual
  -- The items at the front of a text, up to the first byte that begins none. Each is a plain byte, or a backslash and an escape's letter.
  pub items : List ℕ → List (List ℕ)
  items [] = []
  items (b ∷ text) =
      if is_plain_byte b then (b ∷ []) ∷ items text else (if b == 92 then escape_items text else [])

  -- the same after a backslash
  pub escape_items : List ℕ → List (List ℕ)
  escape_items [] = []
  escape_items (letter ∷ text) =
      if is_some (escaped letter) then (92 ∷ letter ∷ []) ∷ items text else []

-- the value of an item
abbrev pub item_value : List ℕ → ℕ
item_value item =
    if length item == 2 then unwrap_or (escaped (slice_index item 1)) 0 else slice_index item 0

-- the first item of a text: its width and its value, or none
abbrev pub BeginsWithItem : List ℕ → Option (ℕ × ℕ) → Type 0
BeginsWithItem text None = items text ≡ []
BeginsWithItem text (Some item) =
    (items text ≡ take item.0 text ∷ items (drop item.0 text))
    × (item_value (take item.0 text) ≡ item.1)

-- the value of a string literal, in bytes
unfoldable pub string_of : List ℕ → List ℕ
string_of literal = map item_value (items (drop 1 literal))

-- the number of bytes of the items
unfoldable pub items_len : List ℕ → ℕ
items_len text = length (concat (items text))

-- a string without its closing quote, rejected at its first byte, since nobody can say where it should end
abbrev pub open_string : Front
open_string = Refused OpenString 0

-- a backslash without an escape's letter after it, rejected at the backslash
abbrev pub bad_escape : ℕ → Front
bad_escape offset = Refused BadEscape offset

-- The front that is a string whose items have n bytes, by what follows them: nothing, a quote, a newline, or a backslash that begins
-- no item.
abbrev pub string_before : ℕ → List ℕ → Front
string_before n [] = open_string
string_before n (b ∷ rest) =
    if b == 34 then Piece Text (n + 2)
    else (if b == 10 || length rest == 0 then open_string else bad_escape (n + 1))

-- the string at the front of a text that begins with a quote
unfoldable pub string_at : List ℕ → Front
string_at text = let n = items_len (drop 1 text) in string_before n (drop (n + 1) text)
