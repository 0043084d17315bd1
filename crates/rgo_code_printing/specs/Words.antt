-- The words of a code text, which are separated by spaces in its lines.
use Rattle.std.specs.Prelude.{ℕ, ◌+◌, ◌/◌, ◌%◌, Bool, true, false, ◌||◌, ◌==◌, nat_lt, if◌then◌else◌}
use Rattle.std.specs.Prelude.{List, [], ◌∷◌, ◌++◌, map, get_or, codes, decimal}
use Rattle.std.specs.List.{join_with_byte, flat_map}
use Rattle.rgo_ast.specs.declared.ops.BinaryOp.{BinaryOp}
use Rattle.rgo_ast.specs.declared.ops.BinaryOp.TheVariants as binary
use Rattle.rgo_typed.specs.declared.statements.Piece.{Piece}
use Rattle.rgo_typed.specs.declared.statements.Piece.TheVariants as piece
use Rattle.rgo_typed.specs.declared.types.Base.{Base}
use Rattle.rgo_typed.specs.declared.types.Base.TheVariants as base
use Rattle.rgo_typed.specs.declared.types.Layer.{Layer}
use Rattle.rgo_typed.specs.declared.types.Layer.TheVariants as layer
use Rattle.rgo_typed.specs.declared.types.Type.{«Type»}
use Rattle.rgo_tac.specs.declared.regions.Class.{Class}
use Rattle.rgo_tac.specs.declared.regions.Class.TheVariants as class

-- ---- numbers and names

-- a variable by its number: `v0`
abbrev pub variable_word : ℕ → List ℕ
variable_word v = 118 ∷ decimal v

-- the name of a region
abbrev pub region_word : ℕ → List ℕ
region_word k = 114 ∷ decimal k

-- the place of an instruction: `@98`
abbrev pub place_word : ℕ → List ℕ
place_word place = 64 ∷ decimal place

-- the constant of an instruction `bool`
abbrev pub bool_word : Bool → List ℕ
bool_word true = codes "true"
bool_word false = codes "false"

-- a class: `-` for none, `G` for that of the package variables, or its name
abbrev pub class_word : Class → List ℕ
class_word class.NoClass = codes "-"
class_word class.Global = codes "G"
class_word (class.Name k) = region_word k

-- the name of a number; names that do not exist are empty, so that all code has a text
abbrev pub name_at : List (List ℕ) → ℕ → List ℕ
name_at names n = get_or names n []

-- `&&` and `||` are not operators of three-address code
abbrev pub operator_word : BinaryOp → List ℕ
operator_word binary.Mul = codes "mul"
operator_word binary.Div = codes "div"
operator_word binary.Rem = codes "rem"
operator_word binary.Add = codes "add"
operator_word binary.Sub = codes "sub"
operator_word binary.Eq = codes "eq"
operator_word binary.Ne = codes "ne"
operator_word binary.Lt = codes "lt"
operator_word binary.Le = codes "le"
operator_word binary.Gt = codes "gt"
operator_word binary.Ge = codes "ge"
operator_word binary.And = []
operator_word binary.Or = []

-- ---- lists

-- words with commas between them
abbrev pub comma_separated : List (List ℕ) → List ℕ
comma_separated words = join_with_byte 44 words

-- the same in brackets, `[` and `]`
abbrev pub bracketed : List (List ℕ) → List ℕ
bracketed words = 91 ∷ (comma_separated words ++ 93 ∷ [])

-- the names that an instruction creates: `+[r0,r1]`, or `+[]` for none
abbrev pub creates_word : List ℕ → List ℕ
creates_word names = 43 ∷ bracketed (map region_word names)

-- those that are removed after it or at entry: `-[r0]`
abbrev pub removes_word : List ℕ → List ℕ
removes_word names = 45 ∷ bracketed (map region_word names)

-- the classes that a call or a `go` passes, one for each region parameter: `R[r0,G]`
abbrev pub passes_word : List Class → List ℕ
passes_word classes = 82 ∷ bracketed (map class_word classes)

-- the names that a call protects: `P[r0]`
abbrev pub protects_word : List ℕ → List ℕ
protects_word names = 80 ∷ bracketed (map region_word names)

-- a function and its arguments
abbrev pub callee_word : (name from : List ℕ) → List ℕ
callee_word name from = name ++ 40 ∷ (comma_separated (map variable_word from) ++ 41 ∷ [])

-- ---- types

-- a type without layers: `int`, `bool`, or a pointer to a struct, which goes by its name among `structs`: `*N`
abbrev pub base_word : List (List ℕ) → Base → List ℕ
base_word structs base.Int = codes "int"
base_word structs base.Bool = codes "bool"
base_word structs (base.Pointer n) = 42 ∷ name_at structs n

-- `[]` for a slice, `chan.` for a channel; the type of its elements follows
abbrev pub layer_word : Layer → List ℕ
layer_word layer.Slice = codes "[]"
layer_word layer.Chan = codes "chan."

-- a type, the outermost layer first: `[]chan.*N` is that of slices of channels of pointers to N
abbrev pub type_word : List (List ℕ) → «Type» → List ℕ
type_word structs ty = flat_map layer_word ty.layers ++ base_word structs ty.base

-- ---- what is printed

-- a digit in base 16
abbrev pub hex_digit : ℕ → ℕ
hex_digit d = if nat_lt d 10 then 48 + d else 87 + d

-- a byte of a string: a quote, a backslash and a newline are escaped, and so are bytes outside 32 to 126
abbrev pub byte_word : ℕ → List ℕ
byte_word b =
    if b == 34 then 92 ∷ 34 ∷ []
    else (if b == 92 then 92 ∷ 92 ∷ []
    else (if b == 10 then 92 ∷ 110 ∷ []
    else (if nat_lt b 32 || nat_lt 126 b then 92 ∷ 120 ∷ hex_digit (b / 16) ∷ hex_digit (b % 16) ∷ []
    else b ∷ [])))

-- the string in double quotes
abbrev pub string_word : List ℕ → List ℕ
string_word bytes = 34 ∷ (flat_map byte_word bytes ++ 34 ∷ [])

-- how many variables a piece prints
abbrev pub value_count : Piece → ℕ
value_count (piece.Text bytes) = 0
value_count piece.Value = 1

-- a string, or the variable of number n among those that are printed
abbrev pub piece_word : Piece → List ℕ → (n : ℕ) → List ℕ
piece_word (piece.Text bytes) from n = string_word bytes
piece_word piece.Value from n = variable_word (get_or from n 0)

-- the words of pieces, where n variables are printed before
abbrev pub piece_words : List Piece → List ℕ → (n : ℕ) → List (List ℕ)
piece_words [] from n = []
piece_words (p ∷ pieces) from n = piece_word p from n ∷ piece_words pieces from (n + value_count p)

-- the one word of all pieces; a print without pieces has no such word, and its removals come next
abbrev pub in_one : List (List ℕ) → List (List ℕ)
in_one [] = []
in_one (word ∷ words) = comma_separated (word ∷ words) ∷ []
