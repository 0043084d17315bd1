-- The object that the next instruction of a goroutine makes: how many words it has, what they first hold, and for which region it
-- is made; and what the record is while these words are stored. Code has numbers of words only. These facts lead from them to objects.
use Rattle.std.specs.Prelude.{◌≡◌, ◌+◌, ◌-◌, ◌/◌, ◌%◌, ◌<◌, ◌≤◌, ◌==◌, ◌^◌, ℕ, zero, suc, true, List, [], ◌∷◌, Option, Some, None, if◌then◌else◌, length, max, nat_lt, slice_get, slice_index}
use Rattle.rgo_sound.specs.Code.Code.{Code, CodeOp, Do}
use Rattle.rgo_sound.specs.Code.Names.{class_of}
use Rattle.rgo_sound.specs.Memory.Memory.{Object}
use Rattle.rgo_sound.specs.RegionMachine.Objects.{cells, data_pages, makes_object, making_region, most_data_pages, object_words as words_of}
use Rattle.rgo_sound.specs.RegionMachine.Owed.{code_function}
use Rattle.rgo_sound.specs.RegionMachine.Regions.{class_region}
use Rattle.rgo_sound.specs.RegionMachine.States.{top_names}
use Rattle.rgo_sound.specs.RegionMachine.declared.limits.Limit.TheVariants.{ObjectSize}
use Rattle.rgo_sound.specs.RegionMachine.declared.regions.Region.{Region}
use Rattle.rgo_sound.specs.Typed.declared.actions.Action.{Action}
use Rattle.rgo_sound.specs.Typed.declared.actions.Action.TheVariants as action
use Rattle.rgo_sound.specs.Typed.declared.programs.Struct.{Struct}
use Rattle.rgo_core.specs.Frames.shown.WordFrames.{WordFrame, frame_word}
use Rattle.rgo_core.specs.Memory.Encoding.{Spot, content, opening_word}
use Rattle.rgo_core.specs.Memory.Records.{Across, Amid, Fill, Make, Rest, page_of}
use Rattle.rgo_core.specs.Memory.Spread.{table_words}
use Rattle.rgo_core.specs.Memory.Words.{cell_at}
use Rattle.rgo_core.specs.runs.Causes.{ReachesLimit}
use Rattle.rgo_core.specs.Core.{Situation, Setup, layout}
use Rattle.rgo_core.specs.moves.NewObjects.{slot_number}
use Rattle.rgo_core.specs.Next.{IsAtOp}
use Rattle.rgo_core.specs.Records.{Record}
use Rattle.rgo_core_steps.specs.After.{making, making_apart}
use Rattle.rgo_core_steps.specs.Making.{IsIndex, IsNewWord, IsNewWordApart, RecordMakesNext, NeedsOwnPage, NeedsReserved, filling, filling_apart, next_is_spread}

-- ---- the region

-- the region, by its slot, in which an instruction makes an object
abbrev pub MakesIn : (T : Setup) (c : Record) {op : CodeOp} → IsAtOp T.code c op → Region → Type 0
MakesIn T c a r = making_region (code_function T.code a.w.function) (top_names c.frame.holder.environments) a.instr.op ≡ Some r

-- It is the region of the class of variable d, to which the instruction writes a pointer to the object.
pub record MakingRegion (T : Setup) (c : Record) {op : CodeOp} (a : IsAtOp T.code c op) (d : ℕ) : Type 0 where
  pub region : Region
  pub in_class : class_region (top_names c.frame.holder.environments) (class_of a.fn d) ≡ Some region
  pub makes : MakesIn T c a region
  pub low : slot_number (layout T) region ≤ T.sizes.regions

-- each instruction that makes an object has one
abbrev pub HasRegion : Type 0
HasRegion = (T : Setup) (g : ℕ) (c : Record) → Situation T g c → (to : Option ℕ) (act : Action) (from removes : List ℕ)
    (a : IsAtOp T.code c (Do to act from removes)) → makes_object act ≡ true → (d : ℕ) × (to ≡ Some d) × MakingRegion T c a d

-- ---- its words

-- The next instruction makes an object with this number of words in the region of this slot. If it has several, `before` of them
-- precede its cells. Word i first holds `first i`.
pub record NewObject (T : Setup) (c : Record) (slot words before : ℕ) (first : ℕ → ℕ) : Type 0 where
  pub object : Object
  pub next : RecordMakesNext T c object slot
  pub many : words_of object ≡ words
  pub split : 1 < words → cells object + before ≡ words
  pub opens : (i : ℕ) → i < words → opening_word (content object i) ≡ first i

-- a struct has a word for each field, and at least one, so that each object has an address of its own
abbrev pub all_struct_words : Option Struct → ℕ
all_struct_words None = 1
all_struct_words (Some struct) = max 1 (length struct.fields)

-- all words of a struct first hold 0
abbrev pub struct_opens : (i : ℕ) → ℕ
struct_opens i = 0

-- the first word of a slice has its length, and its elements first hold 0
abbrev pub slice_opens : (elements i : ℕ) → ℕ
slice_opens n i = if i == 0 then n else 0

-- a channel has a control, which first holds 0, its capacity, and at least one cell
abbrev pub channel_words : (capacity : ℕ) → ℕ
channel_words n = 2 + max 1 n

abbrev pub channel_opens : (capacity i : ℕ) → ℕ
channel_opens n i = if i == 1 then n else 0

abbrev pub MakesStruct : Type 0
MakesStruct = (T : Setup) (g : ℕ) (c : Record) → Situation T g c → (to : Option ℕ) (n : ℕ) (from removes : List ℕ)
    (a : IsAtOp T.code c (Do to (action.New n) from removes)) (r : Region) → MakesIn T c a r
    → NewObject T c (slot_number (layout T) r) (all_struct_words (slice_get T.code.structs n)) 0 struct_opens

-- a slice whose length is not negative
abbrev pub MakesSlice : Type 0
MakesSlice = (T : Setup) (c : Record) (to : Option ℕ) (p : ℕ) (removes : List ℕ) (a : IsAtOp T.code c (Do to action.Slice (p ∷ []) removes))
    (r : Region) → MakesIn T c a r → frame_word a.w p < 2 ^ 63
    → NewObject T c (slot_number (layout T) r) (suc (frame_word a.w p)) 1 (slice_opens (frame_word a.w p))

-- a channel whose values its control can count
abbrev pub MakesChannel : Type 0
MakesChannel = (T : Setup) (c : Record) (to : Option ℕ) (p : ℕ) (removes : List ℕ) (a : IsAtOp T.code c (Do to action.Chan (p ∷ []) removes))
    (r : Region) → MakesIn T c a r → frame_word a.w p < 1073741820
    → NewObject T c (slot_number (layout T) r) (channel_words (frame_word a.w p)) 2 (channel_opens (frame_word a.w p))

-- An access that leaves the frames and what is known of regions leaves the next instruction, and so the object that it makes. Claims and
-- opening stores are such accesses.
abbrev pub AtStays : Type 0
AtStays = (code : Code) (c d : Record) (op : CodeOp) → d.frame ≡ c.frame → IsAtOp code c op → IsAtOp code d op

abbrev pub NewStays : Type 0
NewStays = (T : Setup) (c d : Record) (slot words before : ℕ) (first : ℕ → ℕ) → d.frame ≡ c.frame → NewObject T c slot words before first
    → NewObject T d slot words before first

-- ---- an object that is spread

-- how many data pages an object of this many words has, `before` of which precede its cells
abbrev pub data_pages_of : (page_words words before : ℕ) → ℕ
data_pages_of n words before = if nat_lt n words then (words - before - 1) / n + 1 else 0

-- these are the data pages of the object
abbrev pub PagesAre : Type 0
PagesAre = (T : Setup) (c : Record) (slot words before : ℕ) (first : ℕ → ℕ) (new : NewObject T c slot words before first)
    → data_pages T.sizes.page_words new.object ≡ data_pages_of T.sizes.page_words words before

-- The number of words of the object that an action makes, if its size is not negative, and how many are before its cells.
pub data HasWords (code : Code) (w : WordFrame) (act : Action) (from : List ℕ) (words before : ℕ) : Type 0 where
  OfStruct : (n : ℕ) → act ≡ action.New n → words ≡ all_struct_words (slice_get code.structs n) → before ≡ 0
      → HasWords code w act from words before
  OfSlice : (p : ℕ) → act ≡ action.Slice → from ≡ p ∷ [] → frame_word w p < 2 ^ 63 → words ≡ suc (frame_word w p) → before ≡ 1
      → HasWords code w act from words before
  OfChannel : (p : ℕ) → act ≡ action.Chan → from ≡ p ∷ [] → frame_word w p < 2 ^ 63 → words ≡ channel_words (frame_word w p) → before ≡ 2
      → HasWords code w act from words before

-- if it has more data pages than an object may have, the run may end by this limit, in every state with this record
abbrev pub TooLarge : Type 0
TooLarge = (T : Setup) (g : ℕ) (c : Record) (x : Situation T g c) (to : Option ℕ) (act : Action) (from removes : List ℕ)
    (a : IsAtOp T.code c (Do to act from removes)) (words before : ℕ) → HasWords T.code a.w act from words before
    → most_data_pages T.sizes.page_words < data_pages_of T.sizes.page_words words before
    → ReachesLimit T.code T.sizes T.limits ObjectSize x.s

-- ---- its page

-- this own page does not have room for an object with this number of words, or the goroutine has no own page there
abbrev pub PageHasNoRoom : (page_words words : ℕ) → Option Fill → Type 0
PageHasNoRoom n words None = Unit {0}
PageHasNoRoom n words (Some f) = n < f.fill + words

-- an object that fits a page then needs one
abbrev pub WantsPage : Type 0
WantsPage = (T : Setup) (g : ℕ) (c : Record) → Situation T g c → (slot words before : ℕ) (first : ℕ → ℕ) → NewObject T c slot words before first
    → words ≤ T.sizes.page_words → PageHasNoRoom T.sizes.page_words words (page_of slot c.memory.fills) → NeedsOwnPage T c slot

-- whether the next object is spread: if it has more words than a page
abbrev pub SpreadIsNext : Type 0
SpreadIsNext = (T : Setup) (c : Record) (slot words before : ℕ) (first : ℕ → ℕ) → NewObject T c slot words before first
    → next_is_spread T c ≡ nat_lt T.sizes.page_words words

-- a spread object of which not all pages are reserved, a lead page and its data pages, needs one
abbrev pub WantsReserved : Type 0
WantsReserved = (T : Setup) (c : Record) (slot words before : ℕ) (first : ℕ → ℕ) → NewObject T c slot words before first
    → T.sizes.page_words < words → data_pages_of T.sizes.page_words words before ≤ most_data_pages T.sizes.page_words
    → length c.memory.reserved.pages ≤ data_pages_of T.sizes.page_words words before → NeedsReserved T c slot

-- ---- The stores of its words, from the first one on. The table allows any order; one fixed order makes the record a function of n.

-- the first n numbers, the last first
abbrev pub numbers_below : ℕ → List ℕ
numbers_below zero = []
numbers_below (suc n) = n ∷ numbers_below n

abbrev pub making_after : Fill → Object → (stored : ℕ) → Make
making_after f object zero = Rest
making_after f object (suc n) = Amid f object (numbers_below (suc n))

-- the record of a goroutine after it has stored the first n words of an object, but not all of them
abbrev pub storing : Record → Fill → Object → (n : ℕ) → Record
storing c f object n = record c {
  clock = record c.clock { accesses = c.clock.accesses + n };
  memory = record c.memory { make = making_after f object n };
}

-- the record after all of its words are stored, which is the instruction
abbrev pub with_new_object : Setup → Record → Fill → Object → Record
with_new_object T c f object = record (making T c f object) {
  clock = record (making T c f object).clock { accesses = c.clock.accesses + words_of object };
}

-- the store of word n, which first holds this value
pub record StoresNext (T : Setup) (c : Record) (f : Fill) (object : Object) (n value : ℕ) : Type 0 where
  pub word : IsNewWord T (storing c f object n) n (cell_at (layout T) f.page (f.fill + n)) value
  pub more : suc n < words_of object → filling T (storing c f object n) n ≡ storing c f object (suc n)
  pub last : suc n ≡ words_of object → filling T (storing c f object n) n ≡ with_new_object T c f object

-- the words of an object are stored one by one on an own page that has room for it
abbrev pub StoresWords : Type 0
StoresWords = (T : Setup) (c : Record) (slot words before : ℕ) (first : ℕ → ℕ) (new : NewObject T c slot words before first) (f : Fill)
    → page_of slot c.memory.fills ≡ Some f → f.fill + words ≤ T.sizes.page_words
    → (n : ℕ) → n < words → StoresNext T c f new.object n (first n)

-- before the first one the record is as it was
abbrev pub StoresNone : Type 0
StoresNone = (c : Record) (f : Fill) (object : Object) → c.memory.make ≡ Rest → storing c f object 0 ≡ c

-- ---- the same of a spread object, in the pages reserved for it: its words, and then the numbers of its data pages

abbrev pub making_after_apart : Object → (stored : ℕ) → Make
making_after_apart object zero = Rest
making_after_apart object (suc n) = Across object (numbers_below (suc n))

-- the record after the first n words are stored, but not all of them
abbrev pub storing_apart : Record → Object → (n : ℕ) → Record
storing_apart c object n = record c {
  clock = record c.clock { accesses = c.clock.accesses + n };
  memory = record c.memory { make = making_after_apart object n };
}

-- the record after all of them are stored, which is the instruction
abbrev pub with_new_object_apart : Setup → Record → Object → Record
with_new_object_apart T c object = record (making_apart T c) {
  clock = record (making_apart T c).clock { accesses = c.clock.accesses + table_words T.sizes.page_words object };
}

-- Where word n of an object of this many words goes, `before` of which precede its cells, in these pages, the lead page first. The
-- numbers of the data pages come after the words.
abbrev pub spot_of : (page_words words before : ℕ) → List ℕ → (n : ℕ) → Spot
spot_of page_words words before pages n =
    if nat_lt n before then record { page = slice_index pages 0; offset = n }
    else
    (if nat_lt n words
    then record { page = slice_index pages ((n - before) / page_words + 1); offset = (n - before) % page_words }
    else record { page = slice_index pages 0; offset = before + (n - words) })

-- what word n first holds
abbrev pub first_held : (words : ℕ) → (first : ℕ → ℕ) → List ℕ → (n : ℕ) → ℕ
first_held words first pages n = if nat_lt n words then first n else suc (slice_index pages (n - words + 1))

-- the store of word n, which first holds this value
pub record StoresNextApart (T : Setup) (c : Record) (object : Object) (n word value : ℕ) : Type 0 where
  pub new : IsNewWordApart T (storing_apart c object n) n word value
  pub index : words_of object ≤ n → IsIndex new
  pub more : suc n < table_words T.sizes.page_words object → filling_apart T (storing_apart c object n) n ≡ storing_apart c object (suc n)
  pub last : suc n ≡ table_words T.sizes.page_words object → filling_apart T (storing_apart c object n) n ≡ with_new_object_apart T c object

-- the words of a spread object are stored one by one, when all of its pages are reserved
abbrev pub StoresWordsApart : Type 0
StoresWordsApart = (T : Setup) (c : Record) (slot words before : ℕ) (first : ℕ → ℕ) (new : NewObject T c slot words before first)
    → T.sizes.page_words < words → data_pages_of T.sizes.page_words words before ≤ most_data_pages T.sizes.page_words
    → length c.memory.reserved.pages ≡ suc (data_pages_of T.sizes.page_words words before)
    → (n : ℕ) → n < words + data_pages_of T.sizes.page_words words before
    → StoresNextApart T c new.object n (cell_at (layout T) (spot_of T.sizes.page_words words before c.memory.reserved.pages n).page
    (spot_of T.sizes.page_words words before c.memory.reserved.pages n).offset)
    (first_held words first c.memory.reserved.pages n)

abbrev pub StoresNoneApart : Type 0
StoresNoneApart = (c : Record) (object : Object) → c.memory.make ≡ Rest → storing_apart c object 0 ≡ c
