-- The parts of the image: objects, own pages, fills, counts, and the numbering of creations and of pages taken. Objects count only
-- while their regions are live, since the words of removed ones serve again.
use Rattle.std.specs.Prelude.{◌≡◌, ◌≢◌, ◌⊎◌, ℕ, zero, suc, ◌==◌, if◌then◌else◌, ◌+◌, ◌<◌, ◌≤◌, List, [], length, Some, true, false}
use Rattle.std.specs.Prelude.{slice_get, slice_index}
use Rattle.rgo_sound.specs.Memory.declared.values.Value.{Value}
use Rattle.rgo_sound.specs.Memory.Memory.{Object}
use Rattle.rgo_sound.specs.RegionMachine.Objects.{object_words, fill_of, data_pages, is_spread, is_too_large}
use Rattle.rgo_sound.specs.RegionMachine.Room.{pages_of}
use Rattle.rgo_sound.specs.RegionMachine.Regions.{RegionInfo}
use Rattle.rgo_sound.specs.RegionMachine.declared.regions.Region.{Region}
use Rattle.rgo_sound.specs.RegionMachine.declared.regions.Region.TheVariants.{Global as GlobalRegion, Numbered}
use Rattle.rgo_core_memory.specs.declared.layout.TableSizes.{TableSizes}
use Rattle.rgo_core_memory.specs.Encoding.{Spot, address, encode, content, IsPlain, opening_word}
use Rattle.rgo_core_memory.specs.Ground.{Held, IsLiveObject, MayUseRegion}
use Rattle.rgo_core_memory.specs.Records.{Fill, Rest, Amid, Across, Rec, HasRecord, Within, Owns, Claims, ClosesSlot}
use Rattle.rgo_core_memory.specs.Spread.{lead_spot, table_words, spread_spot, spread_opening}
use Rattle.rgo_core_memory.specs.Pages.{occurrences}

-- ---- objects and package variables

-- the object is spread over these pages: where its words are, and which page numbers its lead page has
pub record SpreadOver (z : TableSizes) (cell : ℕ → ℕ → ℕ) (spots : ℕ → Spot) (start : Spot) (object : Object)
    (pages : List ℕ) : Type 0
  where
    pub begins : start ≡ lead_spot pages 0
    pub many : length pages ≡ pages_of z.page_words object
    pub laid : (i : ℕ) → i < table_words z.page_words object → spots i ≡ spread_spot z.page_words object pages i
    pub numbers : (j : ℕ) → j < data_pages z.page_words object
        → cell (spots (object_words object + j)).page (spots (object_words object + j)).offset ≡ suc (slice_index pages (suc j))

pub record Lies (z : TableSizes) (variable : ℕ → ℕ) (cell : ℕ → ℕ
    → ℕ) (values : List Value) (heap : List Object) (owners : List Region)
    (regions : List RegionInfo) (spot : ℕ → ℕ → Spot) (start : ℕ → Spot) : Type 0 where
  -- each word of a live object is a word of a page
  pub inside : (o i : ℕ) (object : Object) (r : Region) → IsLiveObject heap owners regions o object r
      → i < table_words z.page_words object → ((spot o i).page < z.pages) × ((spot o i).offset < z.page_words)
  -- and holds its value
  pub shows : (o i : ℕ) (object : Object) (r : Region) (v : Value) → IsLiveObject heap owners regions o object r
      → content object i ≡ Some v → cell (spot o i).page (spot o i).offset ≡ encode (address z start) v
  -- No two words of objects are the same word, so a store changes one cell.
  pub apart : (o p i j : ℕ) (object other : Object) (r s : Region) → IsLiveObject heap owners regions o object r
      → IsLiveObject heap owners regions p other s → i < table_words z.page_words object → j < table_words z.page_words other
      → (spot o i).page ≡ (spot p j).page
      → (spot o i).offset ≡ (spot p j).offset → (o ≡ p) × (i ≡ j)
  -- an object that is not spread is in one row, so a pointer and an index lead to the word without another access
  pub row : (o i : ℕ) (object : Object) (r : Region) → IsLiveObject heap owners regions o object r
      → is_spread z.page_words object ≡ false → i < object_words object → ((spot o i).page ≡ (start o).page) × ((spot o i).offset ≡ (start o).offset + i)
  pub spread : (o : ℕ) (object : Object) (r : Region) → IsLiveObject heap owners regions o object r
      → is_spread z.page_words object ≡ true → (pages : List ℕ) × SpreadOver z cell (spot o) (start o) object pages
  pub variables : (n : ℕ) (v : Value) → slice_get values n ≡ Some v
      → (n < z.variables) × (variable n ≡ encode (address z start) v)
  -- an object's region was made
  pub made : (o k : ℕ) → slice_get owners o ≡ Some (Numbered k) → k < length regions

-- ---- own pages

-- the slot of a region
abbrev pub slot_of : TableSizes → (ℕ → ℕ) → Region → ℕ
slot_of z slot GlobalRegion = z.slots
slot_of z slot (Numbered k) = slot k

-- An object that is being made: what of it is stored. `plain`: a new object has no pointers, so a word that is stored early is still
-- right when the object is made.
pub record Amidst (z : TableSizes) (cell : ℕ → ℕ → ℕ) (f : Fill) (object : Object) (stored : List ℕ) : Type 0 where
  pub fits : f.fill + object_words object ≤ z.page_words
  pub plain : (i : ℕ) (v : Value) → content object i ≡ Some v → IsPlain v
  pub laid : (i : ℕ) → i < object_words object → 0 < occurrences i stored → cell f.page (f.fill + i) ≡ opening_word (content object i)

-- the same of a spread object, in these pages
pub record Strewn (z : TableSizes) (cell : ℕ → ℕ → ℕ) (pages : List ℕ) (object : Object) (stored : List ℕ) : Type 0 where
  pub spread : is_spread z.page_words object ≡ true
  pub small : is_too_large z.page_words object ≡ false
  pub many : length pages ≡ pages_of z.page_words object
  pub plain : (i : ℕ) (v : Value) → content object i ≡ Some v → IsPlain v
  pub laid : (i : ℕ) → i < table_words z.page_words object → 0 < occurrences i stored
      → cell (spread_spot z.page_words object pages i).page (spread_spot z.page_words object pages i).offset
      ≡ spread_opening object pages i

-- Pages for spread objects are nobody's own, since an own page is filled further and a spread object's cells may be anywhere in its
-- pages. Reserved pages are claimed for their slot, each once, and hold no other object.
pub record Apart (z : TableSizes) (states : ℕ → ℕ) (cell : ℕ → ℕ → ℕ) (recs : List Rec) (heap : List Object)
    (owners : List Region) (regions : List RegionInfo) (spot : ℕ → ℕ → Spot) : Type 0 where
  pub nobody : (g o i : ℕ) (f : Fill) (object : Object) (r : Region) → Owns recs g f
      → IsLiveObject heap owners regions o object r → is_spread z.page_words object ≡ true
      → i < table_words z.page_words object → (spot o i).page ≢ f.page
  pub claimed : (g p : ℕ) (c : Rec) → HasRecord recs g c → Within p c.reserved.pages → states p ≡ suc c.reserved.slot
  pub unowned : (g h p : ℕ) (c : Rec) (f : Fill) → HasRecord recs g c → Within p c.reserved.pages → Owns recs h f → f.page ≢ p
  pub once : (g h k l p : ℕ) (c d : Rec) → HasRecord recs g c → HasRecord recs h d → slice_get c.reserved.pages k ≡ Some p
      → slice_get d.reserved.pages l ≡ Some p → (g ≡ h) × (k ≡ l)
  pub empty : (g o i p : ℕ) (c : Rec) (object : Object) (r : Region) → HasRecord recs g c → Within p c.reserved.pages
      → IsLiveObject heap owners regions o object r → i < table_words z.page_words object → (spot o i).page ≢ p
  pub strewn : (g : ℕ) (c : Rec) (object : Object) (stored : List ℕ) → HasRecord recs g c → c.make ≡ Across object stored
      → Strewn z cell c.reserved.pages object stored

pub record Own (z : TableSizes) (states : ℕ → ℕ) (cell : ℕ → ℕ
    → ℕ) (recs : List Rec) (heap : List Object) (owners : List Region)
    (regions : List RegionInfo) (slot : ℕ → ℕ) (spot : ℕ → ℕ → Spot) : Type 0 where
  pub ranged : (p : ℕ) → 0 < states p → p < z.pages
  -- a page is claimed for a slot that exists; the last one is Global's
  pub for_slots : (p : ℕ) → states p ≤ suc z.slots
  -- a word of an object is in a page of its region
  pub homes : (o i : ℕ) (object : Object) (r : Region) → IsLiveObject heap owners regions o object r
      → i < table_words z.page_words object → states (spot o i).page ≡ suc (slot_of z slot r)
  -- An own page is claimed for its slot and owned by one goroutine. So its owner fills it without an atomic test.
  pub claimed : (g : ℕ) (f : Fill) → Owns recs g f → states f.page ≡ suc f.slot
  pub alone : (g h : ℕ) (e f : Fill) → Owns recs g e → Owns recs h f → e.page ≡ f.page → (g ≡ h) × (e ≡ f)
  pub room : (g : ℕ) (f : Fill) → Owns recs g f → f.fill ≤ z.page_words
  -- Nothing is above the fill, so the words there may be stored without a step.
  pub under : (g o i : ℕ) (f : Fill) (object : Object) (r : Region) → Owns recs g f
      → IsLiveObject heap owners regions o object r
      → i < table_words z.page_words object → (spot o i).page ≡ f.page → (spot o i).offset < f.fill
  pub amids : (g : ℕ) (c : Rec) (f : Fill) (object : Object) (stored : List ℕ) → HasRecord recs g c
      → c.make ≡ Amid f object stored → Within f c.fills × Amidst z cell f object stored
  pub apart : Apart z states cell recs heap owners regions spot

-- the goroutine makes this object, and these of its words were stored
abbrev pub RecordMakes : TableSizes → Rec → Fill → Object → List ℕ → Type 0
RecordMakes z c f object stored = (c.make ≡ Amid f object stored)
    ⊎ ((c.make ≡ Rest) × (stored ≡ []) × Within f c.fills × (f.fill + object_words object ≤ z.page_words)
    × ((i : ℕ) (v : Value) → content object i ≡ Some v → IsPlain v))

-- the same of a spread object
abbrev pub MakesApart : TableSizes → Rec → Object → List ℕ → Type 0
MakesApart z c object stored = (c.make ≡ Across object stored)
    ⊎ ((c.make ≡ Rest) × (stored ≡ []) × (is_spread z.page_words object ≡ true)
    × (is_too_large z.page_words object ≡ false) × (length c.reserved.pages ≡ pages_of z.page_words object)
    × ((i : ℕ) (v : Value) → content object i ≡ Some v → IsPlain v))

-- all of its words
abbrev pub Covers : Object → List ℕ → Type 0
Covers object stored = (i : ℕ) → i < object_words object → 0 < occurrences i stored

-- the page numbers of a spread object too
abbrev pub CoversApart : TableSizes → Object → List ℕ → Type 0
CoversApart z object stored = (i : ℕ) → i < table_words z.page_words object → 0 < occurrences i stored

-- ---- fills and stakes

-- the goroutine uses a region of that slot
abbrev pub StakeAt : TableSizes → List Held → (ℕ → ℕ) → ℕ → ℕ → Type 0
StakeAt z held slot g s = (h : Held) × (r : Region) × (slice_get held g ≡ Some h) × MayUseRegion h r × (slot_of z slot r ≡ s)

-- creations: how many regions were made
pub record OwnPagesFilled (z : TableSizes) (recs : List Rec) (held : List Held) (creations : ℕ) (slot : ℕ → ℕ) : Type 0 where
  -- an own page is of a region that the goroutine uses, and filled as the goroutine has filled it
  pub fills : (g : ℕ) (f : Fill) → Owns recs g f
      → (h : Held) × (r : Region) × (slice_get held g ≡ Some h) × MayUseRegion h r × (slot_of z slot r ≡ f.slot)
      × (fill_of h.fills r ≡ Some f.fill)
  -- what it has filled of a region that it uses is an own page
  pub owned : (g n : ℕ) (h : Held) (r : Region) → slice_get held g ≡ Some h → MayUseRegion h r → fill_of h.fills r ≡ Some n
      → (f : Fill) × Owns recs g f × (f.slot ≡ slot_of z slot r) × (f.fill ≡ n)
  -- One own page for each slot. The rest of a page that another one has replaced stays unused.
  pub single : (g : ℕ) (e f : Fill) → Owns recs g e → Owns recs g f → e.slot ≡ f.slot → e ≡ f
  -- A page is claimed only by a goroutine with a stake there. So no page is hung onto a chain that is being returned.
  pub claims : (g s : ℕ) (c : Rec) → HasRecord recs g c → Claims c.claim s → StakeAt z held slot g s
  -- the reserved pages are as many as the goroutine has reserved, in a region that it uses
  pub reserved : (g : ℕ) (c : Rec) → HasRecord recs g c → 0 < length c.reserved.pages
      → (h : Held) × (r : Region) × (slice_get held g ≡ Some h) × MayUseRegion h r × (slot_of z slot r ≡ c.reserved.slot)
      × (h.reserved ≡ length c.reserved.pages)
  pub recorded : (g : ℕ) (h : Held) → slice_get held g ≡ Some h → 0 < h.reserved
      → (c : Rec) × HasRecord recs g c × (h.reserved ≡ length c.reserved.pages)
  -- what was filled was made
  pub made : (g k n : ℕ) (h : Held) → slice_get held g ≡ Some h → fill_of h.fills (Numbered k) ≡ Some n → k < creations

-- ---- counts

-- What a slot is used for: nothing, a region, or a region that was removed, whose chain a goroutine returns. The words show it as a
-- count of 0, of at least 2, or of 1.
pub data Use : Type 0 where
  Vacant : Use
  Living : (region : ℕ) → Use
  Closing : (goroutine : ℕ) → Use

pub record SlotCounts (z : TableSizes) (counts top : ℕ → ℕ) (recs : List Rec) (regions : List RegionInfo) (slot : ℕ
    → ℕ) (uses : ℕ → Use) : Type 0 where
  -- Global has one stake that never ends, so its chain is never returned
  pub global : counts z.slots ≡ 2
  -- a new region of the slot begins with an empty chain
  pub vacant : (s : ℕ) → s < z.slots → uses s ≡ Vacant → (counts s ≡ 0) × (top s ≡ 0)
  -- one more than the stakes: so 2 is found by the goroutine that ends the last one, and by no other
  pub living : (s k : ℕ) → s < z.slots → uses s ≡ Living k
      → (slot k ≡ s) × (info : RegionInfo) × (slice_get regions k ≡ Some info) × (0 < info.stakes)
      × (counts s ≡ suc info.stakes)
  -- neither a creation nor a stake leads to count 1, so only the goroutine that returns the chain accesses the slot
  pub closing : (s g : ℕ) → s < z.slots → uses s ≡ Closing g → (counts s ≡ 1) × (c : Rec) × HasRecord recs g c × ClosesSlot c.give s
  -- a live region has a slot of its own, from which its count is found
  pub lives : (k : ℕ) (info : RegionInfo) → slice_get regions k ≡ Some info → 0 < info.stakes
      → (slot k < z.slots) × (uses (slot k) ≡ Living k)
  -- one record closes a slot, so a chain is returned once
  pub closes : (g s : ℕ) (c : Rec) → HasRecord recs g c → ClosesSlot c.give s → (s < z.slots) × (uses s ≡ Closing g)

-- ---- how many pages a region has

-- how many of the first n pages are claimed for a slot
abbrev pub pages_at : (ℕ → ℕ) → ℕ → ℕ → ℕ
pages_at states zero s = 0
pages_at states (suc n) s = if states n == suc s then suc (pages_at states n s) else pages_at states n s

-- The pages of a live region, and of Global, are those that are claimed for its slot. No word has their number, which every claim would
-- have to change.
pub record Paged (z : TableSizes) (states : ℕ → ℕ) (regions : List RegionInfo) (global_pages : ℕ) (slot : ℕ
    → ℕ) : Type 0 where
  pub live : (k : ℕ) (info : RegionInfo) → slice_get regions k ≡ Some info → 0 < info.stakes
      → info.pages ≡ pages_at states z.pages (slot k)
  pub global : global_pages ≡ pages_at states z.pages z.slots

-- ---- what was taken and created

abbrev pub TriedPage : List Rec → ℕ → Type 0
TriedPage recs p = (g : ℕ) × (c : Rec) × HasRecord recs g c × (0 < occurrences p c.tried_pages)

abbrev pub TriedSlot : List Rec → ℕ → Type 0
TriedSlot recs s = (g : ℕ) × (c : Rec) × HasRecord recs g c × (0 < occurrences s c.tried_slots)

-- Each page that is claimed, or that a record found claimed, was taken by a step of its own; each slot that is in use, or that a
-- record found in use, has a region of its own. From this a search in vain gets its cause, although it found the places one by one.
pub record Taken (z : TableSizes) (states counts : ℕ → ℕ) (recs : List Rec) (takes creations : ℕ) (slot page : ℕ
    → ℕ) : Type 0 where
  pub pages : (p : ℕ) → (0 < states p) ⊎ TriedPage recs p → (n : ℕ) × (n < takes) × (page n ≡ p)
  pub slots : (s : ℕ) → s < z.slots → (0 < counts s) ⊎ TriedSlot recs s → (k : ℕ) × (k < creations) × (slot k ≡ s)
