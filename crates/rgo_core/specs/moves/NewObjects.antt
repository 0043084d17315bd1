-- A new object: which one a goroutine's next instruction makes, by its record, and the record after the stores of its words. No other
-- goroutine can reach the words before the last store, since no pointer leads to them. So their order is free, and the goroutine may
-- be stopped between any two.
use Rattle.std.specs.Prelude.{◌≡◌, ℕ, suc, ◌+◌, ◌*◌, ◌<◌, ◌^◌, bit_or, false, true, List, [], ◌∷◌, map, replicate, Option, Some, slice_get, slice_index}
use Rattle.rgo_sound.specs.Code.Code.{Code, CodeOp, Do}
use Rattle.rgo_sound.specs.Code.Erasure.{erased}
use Rattle.rgo_sound.specs.Memory.Memory.{Channel, Object, SliceObject, StructObject}
use Rattle.rgo_sound.specs.Memory.Values.{element_zero, zero_of}
use Rattle.rgo_sound.specs.RegionMachine.Objects.{is_too_large, making_region, object_words as words_of}
use Rattle.rgo_sound.specs.RegionMachine.Owed.{code_function}
use Rattle.rgo_sound.specs.RegionMachine.States.{Stopped, top_names}
use Rattle.rgo_sound.specs.RegionMachine.declared.limits.Limit.TheVariants.{ObjectSize}
use Rattle.rgo_sound.specs.RegionMachine.declared.regions.Region.{Region}
use Rattle.rgo_sound.specs.Tac.Steps.{destination_type}
use Rattle.rgo_sound.specs.Typed.declared.actions.Action.{Action}
use Rattle.rgo_sound.specs.Typed.declared.actions.Action.TheVariants as action
use Rattle.rgo_sound.specs.Typed.declared.programs.Struct.{Struct}
use Rattle.rgo_core_channels.specs.Records.{at_rest}
use Rattle.rgo_core_frames.specs.steps.Actions.{after_action}
use Rattle.rgo_core_frames.specs.shown.WordFrames.{WordFrame, bare, frame_word}
use Rattle.rgo_core_memory.specs.Encoding.{content, opening_word}
use Rattle.rgo_core_memory.specs.Parts.{Covers, CoversApart, RecordMakes, MakesApart}
use Rattle.rgo_core_memory.specs.Records.{Fill, with_object_in_page, with_object_apart, with_word, with_word_apart}
use Rattle.rgo_core_memory.specs.Spread.{spread_opening, spread_spot, table_words}
use Rattle.rgo_core_memory.specs.Words.{cell_at, clock_at}
use Rattle.rgo_core.specs.ties.Bounds.{LieInPages, Points, row_words, target_type}
use Rattle.rgo_core.specs.Core.{Setup, layout}
pub use Rattle.rgo_core.specs.ties.Links.{slot_number}
use Rattle.rgo_core.specs.Next.{IsAtOp}
use Rattle.rgo_core.specs.Records.{Record, accessed, ticked, with_end}
use Rattle.rgo_core.specs.Steps.{Moves}

-- The object that an action makes, by the word of its size. A size is not negative, and a channel has room for fewer than `most` values.
pub data ObjectOf (most : ℕ) (code : Code) (w : WordFrame) (to : Option ℕ) (act : Action) (from : List ℕ) (object : Object) : Type 0 where
  AStruct : (n : ℕ) (made : Struct) → act ≡ action.New n → from ≡ [] → slice_get code.structs n ≡ Some made
      → object ≡ StructObject (map zero_of made.fields) → ObjectOf most code w to act from object
  ASlice : (p : ℕ) → act ≡ action.Slice → from ≡ p ∷ [] → frame_word w p < 2 ^ 63
      → object ≡ SliceObject (replicate (frame_word w p) (element_zero (destination_type (erased code) (bare w) to)))
      → ObjectOf most code w to act from object
  AChannel : (p : ℕ) → act ≡ action.Chan → from ≡ p ∷ [] → frame_word w p < most
      → object ≡ Channel (frame_word w p) [] false → ObjectOf most code w to act from object

-- The control of a channel counts fewer values than this. If a page has fewer words, every object that fits a page is one of these.
abbrev pub MakesObject : Code → WordFrame → Option ℕ → Action → List ℕ → Object → Type 0
MakesObject = ObjectOf 1073741820

-- the record after an instruction that has made an object at the end of what is filled of this own page
abbrev pub made_object : (T : Setup) (c : Record) {op : CodeOp} → IsAtOp T.code c op → Option ℕ → Fill → Object → Record
made_object T c a to f object = record c {
  clock = record (ticked c.clock) {
    share = record c.clock.share { steps = suc c.clock.share.steps; objects = suc c.clock.share.objects };
  };
  frame = after_action T.code c.frame a.w a.ws a.instr to (suc (f.page * T.sizes.page_words + f.fill));
  memory = with_object_in_page c.memory f.slot (f.fill + words_of object);
}

-- where word i of a spread object goes, which is made in the reserved pages of the record
abbrev pub word_apart : Setup → Record → Object → ℕ → ℕ
word_apart T c object i = cell_at (layout T) (spread_spot T.sizes.page_words object c.memory.reserved.pages i).page
    (spread_spot T.sizes.page_words object c.memory.reserved.pages i).offset

-- one word of a new object is stored, and not all of them
abbrev pub WordMove : Type 0
WordMove = (T : Setup) (g : ℕ) (c : Record) (f : Fill) (object : Object) (stored : List ℕ) (i : ℕ)
    → RecordMakes (layout T) c.memory f object stored → i < words_of object
    → Moves T g c (cell_at (layout T) f.page (f.fill + i)) (λ n. opening_word (content object i))
    (λ n d. d ≡ record c { clock = accessed c.clock; memory = with_word c.memory f object (i ∷ stored) })

-- The same of a spread object, in the pages that are reserved: also the numbers of its data pages are stored.
abbrev pub WordMoveApart : Type 0
WordMoveApart = (T : Setup) (g : ℕ) (c : Record) (object : Object) (stored : List ℕ) (i : ℕ)
    → MakesApart (layout T) c.memory object stored → i < table_words T.sizes.page_words object
    → Moves T g c (word_apart T c object i) (λ n. spread_opening object c.memory.reserved.pages i)
    (λ n d. d ≡ record c { clock = accessed c.clock; memory = with_word_apart c.memory object (i ∷ stored) })

-- The last of its words is stored: this is the instruction. All words of the object are in the pages, and so the pointer to it points into
-- them. Which word is last does not matter: the premise is that all others are stored.
abbrev pub ObjectMove : Type 0
ObjectMove = (T : Setup) (g : ℕ) (c : Record) (to : Option ℕ) (act : Action) (from removes : List ℕ)
    (a : IsAtOp T.code c (Do to act from removes)) (object : Object) (by_slot : Region) (f : Fill) (stored : List ℕ) (last : ℕ)
    → c.side ≡ at_rest → MakesObject T.code a.w to act from object
    → making_region (code_function T.code a.w.function) (top_names c.frame.holder.environments) a.instr.op ≡ Some by_slot
    → f.slot ≡ slot_number (layout T) by_slot → RecordMakes (layout T) c.memory f object stored → last < words_of object
    → Covers object (last ∷ stored)
    → Moves T g c (cell_at (layout T) f.page (f.fill + last)) (λ n. opening_word (content object last))
    (λ n d. (d ≡ made_object T c a to f object) × LieInPages T (f.page * T.sizes.page_words + f.fill) (words_of object)
    × Points T (target_type T a.w to) (suc (f.page * T.sizes.page_words + f.fill)))

-- the address of a spread object that is made in the reserved pages: the first word of its lead page
abbrev pub reserved_address : Setup → Record → ℕ
reserved_address T c = slice_index c.memory.reserved.pages 0 * T.sizes.page_words

-- the record after an instruction that has made an object there
abbrev pub record_made_apart : (T : Setup) (c : Record) {op : CodeOp} → IsAtOp T.code c op → Option ℕ → Record
record_made_apart T c a to = record c {
  clock = record (ticked c.clock) {
    share = record c.clock.share { steps = suc c.clock.share.steps; objects = suc c.clock.share.objects };
  };
  frame = after_action T.code c.frame a.w a.ws a.instr to (suc (reserved_address T c));
  memory = with_object_apart c.memory;
}

-- The last word of a spread object is stored, or the last page number.
abbrev pub ObjectMoveApart : Type 0
ObjectMoveApart = (T : Setup) (g : ℕ) (c : Record) (to : Option ℕ) (act : Action) (from removes : List ℕ)
    (a : IsAtOp T.code c (Do to act from removes)) (object : Object) (by_slot : Region) (stored : List ℕ) (last : ℕ)
    → c.side ≡ at_rest → MakesObject T.code a.w to act from object
    → making_region (code_function T.code a.w.function) (top_names c.frame.holder.environments) a.instr.op ≡ Some by_slot
    → MakesApart (layout T) c.memory object stored
    → last < table_words T.sizes.page_words object → CoversApart (layout T) object (last ∷ stored)
    → Moves T g c (word_apart T c object last) (λ n. spread_opening object c.memory.reserved.pages last)
    (λ n d. (d ≡ record_made_apart T c a to) × LieInPages T (reserved_address T c) (row_words T.sizes.page_words object)
    × Points T (target_type T a.w to) (suc (reserved_address T c)))

-- an object of too many data pages ends the run
abbrev pub LargeMove : Type 0
LargeMove = (T : Setup) (g : ℕ) (c : Record) (to : Option ℕ) (act : Action) (from removes : List ℕ)
    (a : IsAtOp T.code c (Do to act from removes)) (object : Object) → ObjectOf (2 ^ 63) T.code a.w to act from object
    → is_too_large T.sizes.page_words object ≡ true
    → Moves T g c clock_at (λ n. bit_or n (2 ^ 63)) (λ n d. d ≡ record c { clock = with_end c.clock n (Stopped ObjectSize) })
