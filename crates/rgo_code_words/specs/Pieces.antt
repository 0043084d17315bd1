-- What a line prints, as it is read.
use Rattle.std.specs.Prelude.{◌≡◌, ◌≢◌, ◌≤◌, ℕ, ◌+◌, ◌-◌, ◌*◌, ◌==◌, nat_le, nat_lt, not, ◌&&◌, ◌||◌, Bool, if◌then◌else◌, List, [], ◌∷◌, ◌++◌, length, drop, get_or, Option, Some, None, All, IfSome, ⊤}
use Rattle.std.specs.List.{flat_map}
use Rattle.std.specs.Option.{option_map}
use Rattle.rgo_typed.specs.declared.statements.Piece.{Piece}
use Rattle.rgo_typed.specs.declared.statements.Piece.TheVariants as piece
use Rattle.rgo_code_words.specs.Readers.{on_some}
use Rattle.rgo_code_printing.specs.Words.{byte_word, piece_word, piece_words, comma_separated, value_count}
use Rattle.rgo_code_words.specs.Worded.{AreSmall, IsSmallNumber, PieceFits, printed_value_count}

-- ---- bytes of strings

-- the value of a digit in base 16
abbrev pub hex_value : ℕ → Option ℕ
hex_value d =
    if nat_le 48 d && nat_le d 57 then Some (d - 48)
    else (if nat_le 97 d && nat_le d 102 then Some (d - 87) else None)

-- A byte that is printed by its number, and one that is printed as it is. A newline is neither: it has an escape of its own.
abbrev pub is_numbered : ℕ → Bool
is_numbered b = not (b == 10) && (nat_lt b 32 || nat_lt 126 b)

abbrev pub is_plain : ℕ → Bool
is_plain b = not (b == 34) && (not (b == 92) && (nat_le 32 b && nat_le b 126))

abbrev pub if_numbered : ℕ → Option ℕ
if_numbered b = if is_numbered b then Some b else None

abbrev pub numbered : (high low : ℕ) → Option ℕ
numbered high low =
    on_some (hex_value high) (λ h. on_some (hex_value low) (λ l. if_numbered (h * 16 + l)))

-- an escaped byte, by what follows the backslash, and how many bytes it takes
abbrev pub escaped_byte : (kind high low : ℕ) → Option (ℕ × ℕ)
escaped_byte kind high low =
    if kind == 34 || kind == 92 then Some (kind, 2)
    else (if kind == 110 then Some (10, 2)
    else (if kind == 120 then option_map (λ b. (b, 4)) (numbered high low)
    else None))

-- the byte of a string at the front of these, and how many of them it takes
abbrev pub string_byte : List ℕ → Option (ℕ × ℕ)
string_byte bytes =
    if is_plain (get_or bytes 0 0) then Some (get_or bytes 0 0, 1)
    else (if get_or bytes 0 0 == 92 then escaped_byte (get_or bytes 1 0) (get_or bytes 2 0) (get_or bytes 3 0)
    else None)

abbrev pub AreBytes : List ℕ → Type 0
AreBytes bytes = PieceFits (piece.Text bytes)

-- The inside of a string, and how many bytes it takes. No further byte of a string follows (`stops`), else each shorter inside would do.
pub record IsStringInside (bytes inside : List ℕ) (len : ℕ) : Type 0 where
  pub cut : bytes ≡ flat_map byte_word inside ++ drop len bytes
  pub within : len ≤ length bytes
  pub fits : AreBytes inside
  pub stops : string_byte (drop len bytes) ≡ None

-- ---- pieces

-- the variable that a piece prints
abbrev pub value_list : Option ℕ → List ℕ
value_list None = []
value_list (Some v) = v ∷ []

-- After a variable a comma follows, or nothing: `v1` is not at the front of `v12`. A string ends with its quote.
abbrev pub IsDelimited : Piece → List ℕ → Type 0
IsDelimited (piece.Text bytes) rest = ⊤
IsDelimited piece.Value rest = get_or rest 0 44 ≡ 44

-- these bytes begin with a piece and the variable that it prints, which take n of them
pub record Fronts (bytes : List ℕ) (p : Piece) (value : Option ℕ) (n : ℕ) : Type 0 where
  pub cut : bytes ≡ piece_word p (value_list value) 0 ++ drop n bytes
  pub within : n ≤ length bytes
  pub fits : PieceFits p
  pub values : length (value_list value) ≡ value_count p
  pub small : IfSome value IsSmallNumber
  pub closed : IsDelimited p (drop n bytes)

-- nothing fits at the front
abbrev pub NoneFronts : List ℕ → Type 0
NoneFronts bytes = (p : Piece) (value : Option ℕ) (n : ℕ) → ¬ (Fronts bytes p value n)

-- pieces with commas between them, at least one
pub record AreListed (bytes : List ℕ) (pieces : List Piece) (from : List ℕ) : Type 0 where
  pub text : bytes ≡ comma_separated (piece_words pieces from 0)
  pub some : pieces ≢ []
  pub fit : All PieceFits pieces
  pub values : length from ≡ printed_value_count pieces
  pub small : AreSmall from

-- pieces that are printed as these bytes, or the fact that there are none
abbrev pub ArePieces : List ℕ → Option (List Piece × List ℕ) → Type 0
ArePieces bytes (Some p) = AreListed bytes p.0 p.1
ArePieces bytes None = (pieces : List Piece) (from : List ℕ) → ¬ (AreListed bytes pieces from)
