-- What the crates above need of the image: addresses, bounds, what follows from a search in vain, and the words of channels.
use Rattle.std.specs.Prelude.{◌≡◌, ◌≢◌, ℕ, suc, ◌+◌, ◌/◌, ◌%◌, ◌<◌, ◌≤◌, false, true, List, length, None, slice_set, slice_index}
use Rattle.rgo_sound.specs.Code.Code.{Code}
use Rattle.rgo_sound.specs.Memory.Memory.{Object}
use Rattle.rgo_sound.specs.RegionMachine.Objects.{object_words as words_in, cells, data_pages, is_spread}
use Rattle.rgo_core_memory.specs.Spread.{table_words, words_before}
use Rattle.rgo_sound.specs.RegionMachine.Regions.{is_live}
use Rattle.rgo_sound.specs.RegionMachine.Room.{live_regions, pages_in_use}
use Rattle.rgo_sound.specs.RegionMachine.States.{RegionState}
use Rattle.rgo_sound.specs.RegionMachine.declared.regions.Region.{Region}
use Rattle.rgo_sound.specs.RegionMachine.declared.regions.Region.TheVariants.{Numbered}
use Rattle.rgo_sound.specs.Good.{AllGood}
use Rattle.rgo_core_memory.specs.declared.layout.TableSizes.{TableSizes}
use Rattle.rgo_core_memory.specs.Words.{cell_at, base, all_words, count_at, state_at}
use Rattle.rgo_core_memory.specs.Encoding.{address, content}
use Rattle.rgo_core_memory.specs.Records.{Fill, Rec, HasRecord, Owns}
use Rattle.rgo_core_memory.specs.Ground.{Ground, IsLiveObject, ground_of, stored, taken_of}
use Rattle.rgo_core_memory.specs.Pages.{occurrences}
use Rattle.rgo_core_memory.specs.Image.{Where, MemoryImage, StateImage, word_at}

-- the object is in a live region of the state
abbrev pub StandsIn : RegionState → ℕ → Object → Region → Type 0
StandsIn s o object r = IsLiveObject s.plain.memory.heap s.owners s.regions o object r

-- Two live objects with the same address are the same. So an address in a record leads to one object, as long as the goroutine has a
-- stake in its region.
abbrev pub OneAddress : Type 0
OneAddress = (z : TableSizes) (words : List ℕ) (recs : List Rec) (s : RegionState) (places : Where)
    → StateImage z words recs s places
    → (o p : ℕ) (a b : Object) (r q : Region) → StandsIn s o a r → StandsIn s p b q
    → address z places.start o ≡ address z places.start p → o ≡ p

-- the words of an object that is not spread follow one another from its address on, in the table
abbrev pub WordsFollow : Type 0
WordsFollow = (z : TableSizes) (words : List ℕ) (recs : List Rec) (s : RegionState) (places : Where)
    → StateImage z words recs s places
    → (o i : ℕ) (object : Object) (r : Region) → StandsIn s o object r → is_spread z.page_words object ≡ false
    → i < words_in object → (word_at z places o i ≡ base z + (address z places.start o + i)) × (word_at z places o i < all_words z)

-- The words of a spread object before its cells, and then the page numbers, follow one another from its address on. These
-- lead to its cells.
abbrev pub SpreadFollows : Type 0
SpreadFollows = (z : TableSizes) (words : List ℕ) (recs : List Rec) (s : RegionState) (places : Where)
    → StateImage z words recs s places
    → (o : ℕ) (object : Object) (r : Region) → StandsIn s o object r → is_spread z.page_words object ≡ true
    → (pages : List ℕ)
    × ((i : ℕ) → i < words_before object → word_at z places o i ≡ base z + (address z places.start o + i))
    × ((j : ℕ) → j < data_pages z.page_words object
    → slice_index words (base z + (address z places.start o + (words_before object + j))) ≡ suc (slice_index pages (suc j)))
    × ((i : ℕ) → i < cells object → word_at z places o (words_before object + i)
    ≡ cell_at z (slice_index pages (i / z.page_words + 1)) (i % z.page_words))

-- The count of a live region is small, so adding 1 to it never wraps around.
abbrev pub CountIsSmall : Type 0
CountIsSmall = (code : Code) (z : TableSizes) (words : List ℕ) (recs : List Rec) (s : RegionState) (places : Where)
    (j : ℕ) → AllGood code s → StateImage z words recs s places
    → is_live s.regions (Numbered j) ≡ true
    → slice_index words (count_at z (places.slot j)) ≤ suc (length s.holders + length s.holders)

-- If a call found every page claimed, at least as many were taken in the whole run; if it found every slot in use, at least as many
-- regions were created. They were found at different moments, so nothing follows about one moment.
abbrev pub AllFound : Type 0
AllFound = (z : TableSizes) (words : List ℕ) (recs : List Rec) (s : RegionState) (places : Where)
    → StateImage z words recs s places → (g : ℕ) (c : Rec) → HasRecord recs g c
    → (((p : ℕ) → p < z.pages → 0 < occurrences p c.tried_pages) → z.pages ≤ taken_of (ground_of s))
    × (((r : ℕ) → r < z.slots → 0 < occurrences r c.tried_slots) → z.slots ≤ length s.regions)

-- if a page is free, fewer pages are in use than there are; if a slot is free, fewer regions are live than there are slots
abbrev pub SomeLeft : Type 0
SomeLeft = (z : TableSizes) (words : List ℕ) (recs : List Rec) (s : RegionState) (places : Where)
    → StateImage z words recs s places
    → ((p : ℕ) → p < z.pages → slice_index words (state_at z p) ≡ 0 → pages_in_use s < z.pages)
    × ((r : ℕ) → r < z.slots → slice_index words (count_at z r) ≡ 0 → live_regions s < z.slots)

-- A word that the object does not determine may be written: any word of a channel other than its capacity. These are accesses to
-- controls and cells, whose meaning is in the image of channels.
abbrev pub UntoldKeeps : Type 0
UntoldKeeps = (z : TableSizes) (words : List ℕ) (recs : List Rec) (x : Ground) (places : Where)
    → MemoryImage z words recs x places → (o : ℕ) (object : Object) (r : Region)
    → IsLiveObject x.heap x.owners x.regions o object r → (i v : ℕ) → i < words_in object → content object i ≡ None
    → MemoryImage z (slice_set words (word_at z places o i) v) recs x places

-- and the queue of a channel may change, as long as what its words determine stays
abbrev pub QueueKeeps : Type 0
QueueKeeps = (z : TableSizes) (words : List ℕ) (recs : List Rec) (x : Ground) (places : Where)
    → MemoryImage z words recs x places → (o : ℕ) (object : Object) (r : Region)
    → IsLiveObject x.heap x.owners x.regions o object r → (after : Object) → words_in after ≡ words_in object
    → cells after ≡ cells object → ((j : ℕ)
    → content after j ≡ content object j)
    → MemoryImage z words recs (stored x o after) places

-- no two words of objects, page numbers among them, are one word of the list, and none is a word above the fill of an own page
abbrev pub WordsDiffer : Type 0
WordsDiffer = (z : TableSizes) (words : List ℕ) (recs : List Rec) (x : Ground) (places : Where)
    → MemoryImage z words recs x places
    → ((o p i j : ℕ) (a b : Object) (r q : Region) → IsLiveObject x.heap x.owners x.regions o a r
    → IsLiveObject x.heap x.owners x.regions p b q
    → i < table_words z.page_words a → j < table_words z.page_words b → (o ≡ p → i ≡ j → ⊥) → word_at z places o i ≢ word_at z places p j)
    × ((g o i j : ℕ) (f : Fill) (a : Object) (r : Region) → Owns recs g f → IsLiveObject x.heap x.owners x.regions o a r
    → i < table_words z.page_words a → f.fill + j < z.page_words
    → cell_at z f.page (f.fill + j) ≢ word_at z places o i)
