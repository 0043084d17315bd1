-- Words of a code text, as they are read.
use Rattle.std.specs.Fmt.{signed_decimal}
use Rattle.std.specs.Prelude.{◌≡◌, ◌≢◌, ◌-◌, ◌^◌, ℕ, ℤ, suc, zero, pos, negsuc, Bool, true, false, ◌&&◌, ◌==◌, nat_lt, if◌then◌else◌, List, [], ◌∷◌, length, take, drop, get_or, Option, Some, None, codes, decimal}
use Rattle.std.specs.Option.{option_map}
use Rattle.std.specs.List.{slice_split}
use Rattle.std.specs.Str.{bytes_eq}
use Rattle.std.specs.Str.Parse.{digits_value, signed_digits_value}
use denote.Ref.{Bor}
use Rattle.rgo_ast.specs.declared.ops.BinaryOp.{BinaryOp}
use Rattle.rgo_ast.specs.declared.ops.BinaryOp.TheVariants as binary
use Rattle.rgo_typed.specs.declared.types.Base.{Base}
use Rattle.rgo_typed.specs.declared.types.Base.TheVariants as base
use Rattle.rgo_typed.specs.declared.types.Layer.{Layer}
use Rattle.rgo_typed.specs.declared.types.Layer.TheVariants as layer
use Rattle.rgo_typed.specs.declared.types.Type.{«Type»}
use Rattle.rgo_tac.specs.declared.regions.Class.{Class}
use Rattle.rgo_tac.specs.declared.regions.Class.TheVariants as class
use Rattle.rgo_code_words.specs.Worded.{is_name}

abbrev pub on_some : {A B : Type 0} → Option A → (A → Option B) → Option B
on_some None f = None
on_some (Some a) f = f a

-- what was read of these bytes: a value that fits and has them as its text; nothing, if nothing has
abbrev pub IsReadFromBytes : {A : Type 0} → (Fits : A → Type 0) → (text : A → List ℕ) → List ℕ → Option A → Type 0
IsReadFromBytes {A} Fits text bytes (Some a) = (bytes ≡ text a) × Fits a
IsReadFromBytes {A} Fits text bytes None = (a : A) → Fits a → bytes ≢ text a

-- ---- numbers

-- What is read of a word is a value that fits and is printed as the word. The parsers of std take more, such as leading zeros, with which
-- a value would have several words.
abbrev pub if_printed : {A : Type 0} → (fits : A → Bool) → (print : A → List ℕ) → List ℕ → A → Option A
if_printed fits print word a = if fits a && bytes_eq (print a) word then Some a else None

abbrev pub is_small : ℕ → Bool
is_small k = nat_lt k (2 ^ 32)

abbrev pub is_int64 : ℤ → Bool
is_int64 (pos n) = nat_lt n (2 ^ 63)
is_int64 (negsuc n) = nat_lt n (2 ^ 63)

unfoldable pub read_number : List ℕ → Option ℕ
read_number word = if_printed is_small decimal word (digits_value 10 word)

unfoldable pub read_int : List ℕ → Option ℤ
read_int word = if_printed is_int64 signed_decimal word (signed_digits_value 10 word)

-- a number after a letter
abbrev pub read_lettered : ℕ → List ℕ → Option ℕ
read_lettered letter [] = None
read_lettered letter (b ∷ word) = if b == letter then read_number word else None

abbrev pub read_variable : List ℕ → Option ℕ
read_variable word = read_lettered 118 word

abbrev pub read_value : List ℕ → Option (Option ℕ)
read_value word = if bytes_eq word (codes "-") then Some None else option_map Some (read_variable word)

abbrev pub read_truth : List ℕ → Option Bool
read_truth word =
    if bytes_eq word (codes "true") then Some true else (if bytes_eq word (codes "false") then Some false else None)

abbrev pub read_class : List ℕ → Option Class
read_class word =
    if bytes_eq word (codes "-") then Some class.NoClass
    else (if bytes_eq word (codes "G") then Some class.Global
    else option_map class.Name (read_lettered 114 word))

abbrev pub read_operator : List ℕ → Option BinaryOp
read_operator word =
    if bytes_eq word (codes "mul") then Some binary.Mul
    else (if bytes_eq word (codes "div") then Some binary.Div
    else (if bytes_eq word (codes "rem") then Some binary.Rem
    else (if bytes_eq word (codes "add") then Some binary.Add
    else (if bytes_eq word (codes "sub") then Some binary.Sub
    else (if bytes_eq word (codes "eq") then Some binary.Eq
    else (if bytes_eq word (codes "ne") then Some binary.Ne
    else (if bytes_eq word (codes "lt") then Some binary.Lt
    else (if bytes_eq word (codes "le") then Some binary.Le
    else (if bytes_eq word (codes "gt") then Some binary.Gt
    else (if bytes_eq word (codes "ge") then Some binary.Ge
    else None))))))))))

-- ---- lists

abbrev pub option_cons : {A : Type 0} → Option A → Option (List A) → Option (List A)
option_cons None others = None
option_cons (Some a) None = None
option_cons (Some a) (Some others) = Some (a ∷ others)

-- all of them, if each is read
abbrev pub read_each : {A : Type 0} → (List ℕ → Option A) → List (List ℕ) → Option (List A)
read_each read [] = Some []
read_each read (word ∷ words) = option_cons (read word) (read_each read words)

-- words with commas between them, at least one
abbrev pub read_some : {A : Type 0} → (List ℕ → Option A) → List ℕ → Option (List A)
read_some read list = read_each read (slice_split (λ b. b == 44) list)

-- words with commas between them
abbrev pub read_list : {A : Type 0} → (List ℕ → Option A) → List ℕ → Option (List A)
read_list read [] = Some []
read_list read (b ∷ list) = read_some read (b ∷ list)

-- bytes as the code has them
abbrev pub bytes_now : Option (Bor (List ℕ)) → Option (List ℕ)
bytes_now None = None
bytes_now (Some bytes) = Some bytes.now

-- what is between a front and a last byte
abbrev pub bytes_inside : List ℕ → ℕ → List ℕ → Option (List ℕ)
bytes_inside front last word =
    if nat_lt (length front) (length word) && bytes_eq (take (length front) word) front
    && get_or word (length word - 1) 0 == last
    then Some (take (length word - 1 - length front) (drop (length front) word))
    else None

abbrev pub read_within : {A : Type 0} → (List ℕ → Option A) → Option (List ℕ) → Option (List A)
read_within read None = None
read_within read (Some list) = read_list read list

abbrev pub is_below_first : ℕ → List ℕ → Bool
is_below_first k [] = true
is_below_first k (j ∷ names) = nat_lt k j

abbrev pub is_ascending : List ℕ → Bool
is_ascending [] = true
is_ascending (k ∷ names) = is_below_first k names && is_ascending names

abbrev pub if_ascending : Option (List ℕ) → Option (List ℕ)
if_ascending None = None
if_ascending (Some names) = if is_ascending names then Some names else None

-- names of regions in brackets, after a byte that says what is done to them; a set of names is written in ascending order only
abbrev pub read_regions : ℕ → List ℕ → Option (List ℕ)
read_regions sign word = if_ascending (read_within (read_lettered 114) (bytes_inside (sign ∷ 91 ∷ []) 93 word))

abbrev pub read_passes : List ℕ → Option (List Class)
read_passes word = read_within read_class (bytes_inside (codes "R[") 93 word)

-- ---- types

-- a type, and the name of its struct, if it has one; the number of that is 0
pub record NamedType : Type 0 where
  pub ty : «Type»
  pub name : List ℕ

abbrev pub as_named_type : List Layer → Base → List ℕ → NamedType
as_named_type layers b name = record { ty = record { layers = layers; base = b }; name = name }

abbrev pub read_base : List ℕ → Option NamedType
read_base word =
    if bytes_eq word (codes "int") then Some (as_named_type [] base.Int [])
    else (if bytes_eq word (codes "bool") then Some (as_named_type [] base.Bool [])
    else (if bytes_eq (take 1 word) (codes "*") && is_name (drop 1 word)
    then Some (as_named_type [] (base.Pointer 0) (drop 1 word)) else None))

abbrev pub with_layer : Layer → Option NamedType → Option NamedType
with_layer l None = None
with_layer l (Some t) = Some (as_named_type (l ∷ t.ty.layers) t.ty.base t.name)

-- the layer that a type begins with
abbrev pub read_layer : List ℕ → Option Layer
read_layer word =
    if bytes_eq (take 2 word) (codes "[]") then Some layer.Slice
    else (if bytes_eq (take 5 word) (codes "chan.") then Some layer.Chan else None)

abbrev pub layer_len : Layer → ℕ
layer_len layer.Slice = 2
layer_len layer.Chan = 5

-- what is read, by the layer at the front, without one, after a `[]`, and after a `chan.`
abbrev pub by_layer : Option Layer → (bare slice chan : Option NamedType) → Option NamedType
by_layer None bare slice chan = bare
by_layer (Some layer.Slice) bare slice chan = with_layer layer.Slice slice
by_layer (Some layer.Chan) bare slice chan = with_layer layer.Chan chan

-- the type that begins after n bytes; counting them down lets it recurse on the word, though layers have different lengths
abbrev pub type_after : List ℕ → (n : ℕ) → Option NamedType
type_after [] n = None
type_after (b ∷ word) (suc n) = type_after word n
type_after (b ∷ word) zero =
    by_layer (read_layer (b ∷ word)) (read_base (b ∷ word)) (type_after word 1) (type_after word 4)

abbrev pub read_type : List ℕ → Option NamedType
read_type word = type_after word 0
