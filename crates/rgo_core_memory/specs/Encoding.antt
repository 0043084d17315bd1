-- How values are encoded in words, and what each word of an object holds. A word has no mark of its kind: what it means follows from
-- the types of the code. So equal words of different types may be different values.
use Rattle.std.specs.Prelude.{◌≡◌, ℕ, zero, suc, ◌+◌, ◌*◌, length, pos, Option, Some, None, slice_get}
use Rattle.std.specs.Int.{w64, cast_unsigned, from_bool}
use Rattle.rgo_sound.specs.Memory.declared.values.Value.{Value}
use Rattle.rgo_sound.specs.Memory.declared.values.Value.TheVariants as value
use Rattle.rgo_sound.specs.Memory.Memory.{Object, StructObject, SliceObject, Channel}
use Rattle.rgo_core_memory.specs.declared.layout.TableSizes.{TableSizes}

-- a word of a page
pub record Spot : Type 0 where
  pub page : ℕ
  pub offset : ℕ

-- The address of an object, by where objects begin: at their first word, or at that of their lead page. A pointer is the address plus
-- 1, so that nil can be 0.
abbrev pub address : TableSizes → (ℕ → Spot) → ℕ → ℕ
address z start o = (start o).page * z.page_words + (start o).offset

abbrev pub encode : (ℕ → ℕ) → Value → ℕ
encode address (value.Int n) = cast_unsigned w64 n
encode address (value.Bool b) = from_bool b
encode address value.Nil = 0
encode address (value.Object o) = suc (address o)

-- What a word of an object holds, if the object determines it. For a channel that is the capacity alone: its control and cells follow
-- from who has locked it, too, and belong to the image of channels. The only word of a struct without fields holds nothing.
abbrev pub content : Object → ℕ → Option Value
content (StructObject cells) i = slice_get cells i
content (SliceObject cells) zero = Some (value.Int (pos (length cells)))
content (SliceObject cells) (suc i) = slice_get cells i
content (Channel capacity queue closed) zero = None
content (Channel capacity queue closed) (suc zero) = Some (value.Int (pos capacity))
content (Channel capacity queue closed) (suc (suc i)) = None

-- a value other than a pointer: its word is the same wherever objects are
abbrev pub IsPlain : Value → Type 0
IsPlain (value.Int n) = Unit {0}
IsPlain (value.Bool b) = Unit {0}
IsPlain value.Nil = Unit {0}
IsPlain (value.Object o) = ⊥

-- The first value of such a word. A word of which the object says nothing begins with 0, which is an open, empty, unlocked channel.
abbrev pub opening_word : Option Value → ℕ
opening_word None = 0
opening_word (Some v) = encode (λ o. 0) v

-- the object that is the other with another value in one word
pub record ChangesWord (object : Object) (i : ℕ) (v : Value) (after : Object) : Type 0 where
  pub here : content after i ≡ Some v
  pub there : (j : ℕ) → (j ≡ i → ⊥) → content after j ≡ content object j
