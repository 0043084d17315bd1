-- Where the words of pointers lead: to an address after which at least as many words are in the pages as an object of the type has.
-- This makes an access through a pointer safe without a test of the position, whatever the word is.
use Rattle.std.specs.Prelude.{◌≡◌, ◌+◌, ◌*◌, ◌≤◌, ℕ, suc, true, List, [], ◌∷◌, map, replicate, Option, Some, None, slice_get, if◌then◌else◌}
use Rattle.rgo_sound.specs.Code.Code.{CodeOp}
use Rattle.rgo_sound.specs.Code.Erasure.{erased}
use Rattle.rgo_sound.specs.Memory.Memory.{Object, SliceObject, StructObject}
use Rattle.rgo_sound.specs.Memory.Values.{zero_of}
use Rattle.rgo_sound.specs.Memory.declared.values.Value.TheVariants as value
use Rattle.rgo_sound.specs.RegionMachine.Objects.{data_pages, is_spread, object_words}
use Rattle.rgo_sound.specs.Tac.Steps.{destination_type}
use Rattle.rgo_sound.specs.Typed.Types.{is_pointer_like}
use Rattle.rgo_sound.specs.Typed.declared.programs.Struct.{Struct}
use Rattle.rgo_sound.specs.Typed.declared.types.Base.{Base}
use Rattle.rgo_sound.specs.Typed.declared.types.Base.TheVariants as base
use Rattle.rgo_sound.specs.Typed.declared.types.Layer.{Layer}
use Rattle.rgo_sound.specs.Typed.declared.types.Layer.TheVariants.{Chan, Slice}
use Rattle.rgo_sound.specs.Typed.declared.types.Type.{«Type»}
use Rattle.rgo_core_frames.specs.shown.WordFrames.{WordFrame, bare}
use Rattle.rgo_core_memory.specs.Spread.{words_before}
use Rattle.rgo_core.specs.Core.{Setup}
use Rattle.rgo_core.specs.Next.{IsAtOp, acted_record}
use Rattle.rgo_core.specs.Records.{Record}

-- ---- how many words follow an object's address at least

-- How many words of an object follow one another from its address on: all of them; or, of a spread one, those before its cells and
-- the numbers of its data pages.
abbrev pub row_words : (page_words : ℕ) → Object → ℕ
row_words page_words object =
    if is_spread page_words object then words_before object + data_pages page_words object else object_words object

abbrev pub struct_words : (page_words : ℕ) → Option Struct → ℕ
struct_words page_words None = 0
struct_words page_words (Some struct) = row_words page_words (StructObject (map zero_of struct.fields))

abbrev pub base_words : (page_words : ℕ) → List Struct → Base → ℕ
base_words page_words structs (base.Pointer n) = struct_words page_words (slice_get structs n)
base_words page_words structs _ = 0

-- a slice has its length; a channel its control, its capacity, and a cell or the number of a data page
abbrev pub layer_words : Layer → ℕ
layer_words Slice = 1
layer_words Chan = 3

abbrev pub least_words_in : (page_words : ℕ) → List Struct → List Layer → Base → ℕ
least_words_in page_words structs [] b = base_words page_words structs b
least_words_in page_words structs (layer ∷ layers) b = layer_words layer

-- the object of a pointer, slice or channel of this type
abbrev pub least_words : (page_words : ℕ) → List Struct → «Type» → ℕ
least_words page_words structs ty = least_words_in page_words structs ty.layers ty.base

-- ---- where a word of a type points

-- `object_words` words from this address on are words of pages
abbrev pub LieInPages : Setup → (address words : ℕ) → Type 0
LieInPages T address words = address + words ≤ T.sizes.pages * T.sizes.page_words

-- A pointer, slice or channel that is not nil is one more than an address, after which at least as many words are in the pages as its
-- object has.
abbrev pub Points : Setup → «Type» → ℕ → Type 0
Points T ty word =
    (address : ℕ) → is_pointer_like ty ≡ true → word ≡ suc address → LieInPages T address (least_words T.sizes.page_words T.code.structs ty)

-- the words that follow the address of a slice with this many elements
abbrev pub slice_words : Setup → ℕ → ℕ
slice_words T n = row_words T.sizes.page_words (SliceObject (replicate n value.Nil))

-- the type of the variable to which an instruction writes a word
abbrev pub target_type : Setup → WordFrame → Option ℕ → «Type»
target_type T w to = destination_type (erased T.code) (bare w) to

-- The record after an instruction by an access, and where the word points that is its value. The second half is given at once, since
-- the word may be any that another goroutine has stored.
abbrev pub Gives : (T : Setup) (c : Record) {op : CodeOp} → IsAtOp T.code c op → (to : Option ℕ) (word : ℕ) → Record → Type 0
Gives T c a to word d = (d ≡ acted_record T.code c a to word) × Points T (target_type T a.w to) word
