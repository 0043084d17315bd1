-- New objects: which one the next instruction of a goroutine makes, in which slot, and at the end of which page or in which reserved
-- pages; and the record after each store of one of its words. All of it is computed from the record, which nobody else changes
-- while the goroutine stores one word after the other.
use Rattle.std.specs.Option.{option_map, option_map_or}
use Rattle.std.specs.Prelude.{◌≡◌, ◌⊎◌, ◌<◌, ◌≤◌, ◌+◌, ◌*◌, ◌==◌, ◌^◌, ℕ, zero, suc, Bool, true, false, List, [], ◌∷◌, Option, Some, None, if◌then◌else◌, length, map, nat_lt, option_and_then, replicate, slice_get}
use Rattle.rgo_sound.specs.Code.Code.{Branch, Call, Code, CodeOp, Do, Go, Jump, Print, Return}
use Rattle.rgo_sound.specs.Code.Erasure.{erased}
use Rattle.rgo_sound.specs.Memory.Memory.{Channel, Object, SliceObject, StructObject}
use Rattle.rgo_sound.specs.Memory.Values.{element_zero, zero_of}
use Rattle.rgo_sound.specs.RegionMachine.Objects.{is_spread, is_too_large, making_region, object_words as words_of}
use Rattle.rgo_sound.specs.RegionMachine.Owed.{code_function}
use Rattle.rgo_sound.specs.RegionMachine.Room.{pages_of}
use Rattle.rgo_sound.specs.RegionMachine.States.{top_names}
use Rattle.rgo_sound.specs.RegionMachine.declared.regions.Region.{Region}
use Rattle.rgo_sound.specs.Tac.Steps.{destination_type}
use Rattle.rgo_sound.specs.Typed.declared.actions.Action.{Action}
use Rattle.rgo_sound.specs.Typed.declared.actions.Action.TheVariants as action
use Rattle.rgo_sound.specs.Typed.declared.programs.Struct.{Struct}
use Rattle.rgo_core.specs.Channels.Records.{at_rest}
use Rattle.rgo_core.specs.Frames.shown.WordFrames.{WordFrame, bare, frame_word}
use Rattle.rgo_core.specs.Memory.Encoding.{content, opening_word}
use Rattle.rgo_core.specs.Memory.Pages.{occurrences}
use Rattle.rgo_core.specs.Memory.Records.{Across, Amid, Fill, Idle, Make, Rec as MemoryRec, Rest, Within, page_of, with_word, with_word_apart}
use Rattle.rgo_core.specs.Memory.Spread.{spread_opening, table_words}
use Rattle.rgo_core.specs.Memory.Words.{cell_at}
use Rattle.rgo_core.specs.ties.Bounds.{LieInPages, Points, row_words}
use Rattle.rgo_core.specs.Core.{Setup, layout}
use Rattle.rgo_core.specs.moves.NewObjects.{MakesObject, reserved_address, slot_number, word_apart}
use Rattle.rgo_core.specs.Next.{IsAtOp}
use Rattle.rgo_core.specs.Records.{Record, accessed}
use Rattle.rgo_core_steps.specs.Accesses.{given_type}
use Rattle.rgo_core_steps.specs.After.{Position, making, making_apart, position}

-- ---- the object

abbrev pub struct_of : Struct → Object
struct_of made = StructObject (map zero_of made.fields)

-- this object, if the number n of its parts is below a limit
abbrev pub object_below : (n limit : ℕ) → Object → Option Object
object_below n limit object = if nat_lt n limit then Some object else None

-- The object that an action makes: a size is not negative, and a buffer is small. The other actions make none.
abbrev pub object_of : Code → WordFrame → Option ℕ → Action → List ℕ → Option Object
object_of code w to (action.New n) from = option_map struct_of (slice_get code.structs n)
object_of code w to action.Slice [] = None
object_of code w to action.Slice (p ∷ ps) = object_below (frame_word w p) (2 ^ 63)
    (SliceObject (replicate (frame_word w p) (element_zero (destination_type (erased code) (bare w) to))))
object_of code w to action.Chan [] = None
object_of code w to action.Chan (p ∷ ps) = object_below (frame_word w p) 1073741820 (Channel (frame_word w p) [] false)
object_of code w to _ from = None

abbrev pub object_in : Code → WordFrame → CodeOp → Option Object
object_in code w (Do to act from removes) = object_of code w to act from
object_in code w (Call to n from passes protects removes) = None
object_in code w (Go n from passes removes) = None
object_in code w (Print pieces from removes) = None
object_in code w (Jump target removes) = None
object_in code w (Branch test target removes other otherwise) = None
object_in code w (Return value) = None

-- the object that the next instruction makes
abbrev pub object_to_make : Setup → Record → Option Object
object_to_make T c = option_and_then (λ (p : Position). object_in T.code p.w p.instr.op) (position T.code c)

-- ---- its slot and its page

abbrev pub region_at : Setup → Record → Position → Option Region
region_at T c p = making_region (code_function T.code p.w.function) (top_names c.frame.holder.environments) p.instr.op

-- the slot of the region in which the next instruction makes an object
abbrev pub next_slot : Setup → Record → Option ℕ
next_slot T c = option_map (slot_number (layout T)) (option_and_then (region_at T c) (position T.code c))

-- the own page at whose end the words of the next object go
abbrev pub next_page : Setup → Record → Option Fill
next_page T c = option_and_then (λ (s : ℕ). page_of s c.memory.fills) (next_slot T c)

-- the goroutine's next instruction makes this object in the region of this slot
pub record RecordMakesNext (T : Setup) (c : Record) (object : Object) (slot : ℕ) : Type 0 where
  pub to : Option ℕ
  pub act : Action
  pub from : List ℕ
  pub removes : List ℕ
  pub here : IsAtOp T.code c (Do to act from removes)
  pub makes : MakesObject T.code here.w to act from object
  pub region : Region
  pub in_region : making_region (code_function T.code here.w.function) (top_names c.frame.holder.environments) here.instr.op ≡ Some region
  pub in_slot : slot_number (layout T) region ≡ slot

-- ---- a page is needed

-- The object fits a page, and not what is left of an own page of that slot.
pub record NeedsOwnPage (T : Setup) (c : Record) (slot : ℕ) : Type 0 where
  pub object : Object
  pub next : RecordMakesNext T c object slot
  pub fits : words_of object ≤ T.sizes.page_words
  -- a goroutine takes no page as long as its own one there has room, so pages are filled
  pub full : (f : Fill) → Within f c.memory.fills → f.slot ≡ slot → T.sizes.page_words < f.fill + words_of object

-- The object is spread, and not all of its pages are reserved.
pub record NeedsReserved (T : Setup) (c : Record) (slot : ℕ) : Type 0 where
  pub object : Object
  pub next : RecordMakesNext T c object slot
  pub spread : is_spread T.sizes.page_words object ≡ true
  pub small : is_too_large T.sizes.page_words object ≡ false
  -- the object takes exactly these, so no page is reserved beyond them
  pub more : length c.memory.reserved.pages < pages_of T.sizes.page_words object

abbrev pub NeedsPage : (T : Setup) (c : Record) (slot : ℕ) → Type 0
NeedsPage T c slot = NeedsOwnPage T c slot ⊎ NeedsReserved T c slot

-- whether the object that the next instruction makes is spread
abbrev pub next_is_spread : Setup → Record → Bool
next_is_spread T c = option_map_or (is_spread T.sizes.page_words) (object_to_make T c) false

-- Nothing is pending: no operation on a channel, no page that is claimed and not yet linked, no object that is half made. A record has room
-- for one of each.
pub record IsCalm (c : Record) : Type 0 where
  pub side : c.side ≡ at_rest
  pub claim : c.memory.claim ≡ Idle
  pub make : c.memory.make ≡ Rest

-- ---- its words

-- the words of the object that are stored
abbrev pub stored_in : Make → List ℕ
stored_in Rest = []
stored_in (Amid f object stored) = stored
stored_in (Across object stored) = stored

-- no word of the object is stored yet and it fits the page, or some are stored
abbrev pub IsMaking : (page_words : ℕ) → MemoryRec → Fill → Object → Type 0
IsMaking n m f object = ((m.make ≡ Rest) × (f.fill + words_of object ≤ n)) ⊎ (m.make ≡ Amid f object (stored_in m.make))

-- word i of the next object has this position in the table, and first holds this value
pub record IsNewWord (T : Setup) (c : Record) (i word value : ℕ) : Type 0 where
  pub object : Object
  pub slot : ℕ
  pub next : RecordMakesNext T c object slot
  pub page : Fill
  pub is_page : page_of slot c.memory.fills ≡ Some page
  pub making : IsMaking T.sizes.page_words c.memory page object
  pub low : i < words_of object
  pub at : word ≡ cell_at (layout T) page.page (page.fill + i)
  pub opens : value ≡ opening_word (content object i)

-- Whether all of the first n words are among these. So the code may store them in any order, and more than once.
abbrev pub covers : ℕ → List ℕ → Bool
covers zero stored = true
covers (suc n) stored = if occurrences n stored == 0 then false else covers n stored

-- the record after word i of this object is stored, on this page: with the last word the object is made
abbrev pub with_new_word : Setup → Record → Fill → Object → (i : ℕ) → Record
with_new_word T c f object i =
    if covers (words_of object) (i ∷ stored_in c.memory.make) then making T c f object
    else record c { clock = accessed c.clock; memory = with_word c.memory f object (i ∷ stored_in c.memory.make) }

-- the same of the next object on its page
abbrev pub filling : Setup → Record → (i : ℕ) → Record
filling T c i = option_map_or (λ (object : Object). option_map_or (λ (f : Fill). with_new_word T c f object i) (next_page T c) c) (object_to_make T c) c

-- all words of this object on this page are in pages, and a pointer to it points into them
abbrev pub IsPlaced : Setup → Record → Fill → Object → Type 0
IsPlaced T c f object = LieInPages T (f.page * T.sizes.page_words + f.fill) (words_of object)
    × Points T (given_type T c) (suc (f.page * T.sizes.page_words + f.fill))

-- the next object is so, if word i is the last of its words
abbrev pub NewPoints : Setup → Record → (i : ℕ) → Type 0
NewPoints T c i = (object : Object) (f : Fill) → object_to_make T c ≡ Some object → next_page T c ≡ Some f
    → covers (words_of object) (i ∷ stored_in c.memory.make) ≡ true → IsPlaced T c f object

-- ---- the words of a spread object

-- Word i of the next object, which is spread, has this position in the table, in the pages that are reserved, and first holds this value.
-- The numbers of the data pages come after its words.
pub record IsNewWordApart (T : Setup) (c : Record) (i word value : ℕ) : Type 0 where
  pub object : Object
  pub slot : ℕ
  pub next : RecordMakesNext T c object slot
  pub spread : is_spread T.sizes.page_words object ≡ true
  pub small : is_too_large T.sizes.page_words object ≡ false
  pub all : length c.memory.reserved.pages ≡ pages_of T.sizes.page_words object
  pub making : (c.memory.make ≡ Rest) ⊎ (c.memory.make ≡ Across object (stored_in c.memory.make))
  pub low : i < table_words T.sizes.page_words object
  pub at : word ≡ word_apart T c object i
  pub opens : value ≡ spread_opening object c.memory.reserved.pages i

-- it is the number of a data page
abbrev pub IsIndex : {T : Setup} {c : Record} {i word value : ℕ} → IsNewWordApart T c i word value → Type 0
IsIndex {i = i} new = words_of new.object ≤ i

-- the record after word i of this object is stored, in the reserved pages: with the last word the object is made
abbrev pub with_new_word_apart : Setup → Record → Object → (i : ℕ) → Record
with_new_word_apart T c object i =
    if covers (table_words T.sizes.page_words object) (i ∷ stored_in c.memory.make) then making_apart T c
    else record c { clock = accessed c.clock; memory = with_word_apart c.memory object (i ∷ stored_in c.memory.make) }

-- the same of the next object
abbrev pub filling_apart : Setup → Record → (i : ℕ) → Record
filling_apart T c i = option_map_or (λ (object : Object). with_new_word_apart T c object i) (object_to_make T c) c

-- the words that follow its address are in pages, and a pointer to it points into them
abbrev pub IsPlacedApart : Setup → Record → Object → Type 0
IsPlacedApart T c object = LieInPages T (reserved_address T c) (row_words T.sizes.page_words object)
    × Points T (given_type T c) (suc (reserved_address T c))

-- the next object is so, if word i is the last of its words
abbrev pub NewPointsApart : Setup → Record → (i : ℕ) → Type 0
NewPointsApart T c i = (object : Object) → object_to_make T c ≡ Some object
    → covers (table_words T.sizes.page_words object) (i ∷ stored_in c.memory.make) ≡ true → IsPlacedApart T c object
