-- What has a word: names, numbers, lists of regions, classes, operators, integers, and what is printed.
use Rattle.std.specs.Prelude.{◌≡◌, ◌<◌, ◌^◌, ◌+◌, ℕ, ℤ, Bool, true, false, not, ◌&&◌, ◌||◌, ◌==◌, nat_le, List, [], ◌∷◌, Option, All, IfSome, pos, negsuc, codes, ⊤}
use Rattle.std.specs.List.{list_all, list_any}
use Rattle.std.specs.List.Sorted.{IsStrictlyIncreasing}
use Rattle.std.specs.Str.{bytes_eq}
use Rattle.rgo_ast.specs.declared.ops.BinaryOp.{BinaryOp}
use Rattle.rgo_ast.specs.declared.ops.BinaryOp.TheVariants as binary
use Rattle.rgo_typed.specs.declared.statements.Piece.{Piece}
use Rattle.rgo_typed.specs.declared.statements.Piece.TheVariants as piece
use Rattle.rgo_tac.specs.declared.regions.Class.{Class}
use Rattle.rgo_tac.specs.declared.regions.Class.TheVariants as class
use Rattle.rgo_code_printing.specs.Words.{value_count}

-- ---- names

-- a letter or `_`
abbrev pub is_code_letter : ℕ → Bool
is_code_letter b = (nat_le 65 b && nat_le b 90) || (nat_le 97 b && nat_le b 122) || b == 95

-- a letter, `_` or a digit
abbrev pub is_code_word_byte : ℕ → Bool
is_code_word_byte b = is_code_letter b || (nat_le 48 b && nat_le b 57)

-- the keywords of Go
abbrev pub keywords : List (List ℕ)
keywords =
    codes "break" ∷ codes "case" ∷ codes "chan" ∷ codes "const" ∷ codes "continue" ∷ codes "default" ∷ codes "defer"
    ∷ codes "else" ∷ codes "fallthrough" ∷ codes "for" ∷ codes "func" ∷ codes "go" ∷ codes "goto" ∷ codes "if"
    ∷ codes "import" ∷ codes "interface" ∷ codes "map" ∷ codes "package" ∷ codes "range" ∷ codes "return"
    ∷ codes "select" ∷ codes "struct" ∷ codes "switch" ∷ codes "type" ∷ codes "var" ∷ []

-- these bytes are among the names
abbrev pub is_among : List (List ℕ) → List ℕ → Bool
is_among names name = list_any (λ known. bytes_eq known name) names

-- a word of letters, digits and `_` that does not begin with a digit
abbrev pub is_word : List ℕ → Bool
is_word [] = false
is_word (b ∷ bytes) = is_code_letter b && list_all is_code_word_byte bytes

-- a word that is not a keyword
unfoldable pub is_name : List ℕ → Bool
is_name bytes = is_word bytes && not (is_among keywords bytes)

-- each of these is a name
abbrev pub AreNames : List (List ℕ) → Type 0
AreNames names = All (λ name. is_name name ≡ true) names

-- ---- numbers

-- a number of 32 bits
abbrev pub IsSmallNumber : ℕ → Type 0
IsSmallNumber k = k < 2 ^ 32

-- each of these is a number of 32 bits
abbrev pub AreSmall : List ℕ → Type 0
AreSmall ks = All IsSmallNumber ks

-- a list of names of regions, in ascending order, so that a set has one word
abbrev pub AreRegions : List ℕ → Type 0
AreRegions names = IsStrictlyIncreasing names × AreSmall names

-- the name of a class has a word if it is a number of 32 bits; other classes always have one
abbrev pub ClassFits : Class → Type 0
ClassFits (class.Name k) = IsSmallNumber k
ClassFits class.NoClass = ⊤
ClassFits class.Global = ⊤

-- ---- what instructions have

-- the operator has a word; `&&` and `||` have none, since three-address code has branches in their place
abbrev pub OperatorFits : BinaryOp → Type 0
OperatorFits binary.And = ⊥
OperatorFits binary.Or = ⊥
OperatorFits op = ⊤

-- an integer of 64 bits
abbrev pub IntFits : ℤ → Type 0
IntFits (pos n) = n < 2 ^ 63
IntFits (negsuc n) = n < 2 ^ 63

-- how many variables are printed
abbrev pub printed_value_count : List Piece → ℕ
printed_value_count [] = 0
printed_value_count (p ∷ pieces) = value_count p + printed_value_count pieces

-- a string consists of bytes
abbrev pub PieceFits : Piece → Type 0
PieceFits (piece.Text bytes) = All (λ b. b < 2 ^ 8) bytes
PieceFits piece.Value = ⊤

-- the variable, if there is one, has a number of 32 bits
abbrev pub ValueFits : Option ℕ → Type 0
ValueFits value = IfSome value IsSmallNumber
