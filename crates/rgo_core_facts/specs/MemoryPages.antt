-- The own pages of a goroutine and those that it has reserved, and what of its memory has to be at rest before a stake ends. Nobody else
-- accesses these pages above the fill, so the goroutine needs no lock to fill them.
use Rattle.std.specs.Prelude.{◌≡◌, ◌+◌, ◌*◌, ◌<◌, ◌≤◌, ℕ, suc, Some, length, slice_index}
use Rattle.rgo_core.specs.Memory.Events.{IsFreeOf}
use Rattle.rgo_core.specs.Memory.Records.{Fill, Idle, Rec, Rest, Within, page_of, with_own_page}
use Rattle.rgo_core.specs.ties.Bounds.{LieInPages}
use Rattle.rgo_core.specs.Core.{Situation, Setup}
use Rattle.rgo_core.specs.Records.{Record}
use Rattle.rgo_core_facts.specs.MemoryObjects.{NewObject, data_pages_of}

-- an own page for this slot is a page, and no more of it is filled than it has
pub record IsOwnPage (T : Setup) (slot : ℕ) (f : Fill) : Type 0 where
  pub its : f.slot ≡ slot
  pub low : slot ≤ T.sizes.regions
  pub page : f.page < T.sizes.pages
  -- so what is left of the page is a difference that is not negative
  pub fill : f.fill ≤ T.sizes.page_words

abbrev pub OwnPages : Type 0
OwnPages = (T : Setup) (g : ℕ) (c : Record) → Situation T g c → (slot : ℕ) (f : Fill) → page_of slot c.memory.fills ≡ Some f
    → IsOwnPage T slot f

-- a goroutine has at most one own page for each slot
abbrev pub OneOwnPage : Type 0
OneOwnPage = (T : Setup) (g : ℕ) (c : Record) → Situation T g c → (f : Fill) → Within f c.memory.fills
    → page_of f.slot c.memory.fills ≡ Some f

-- a page that was claimed for a slot is the own page there, and empty
abbrev pub ClaimedPage : Type 0
ClaimedPage = (m : Rec) (page slot : ℕ) → page_of slot (with_own_page m page slot).fills ≡ Some (record { slot = slot; page = page; fill = 0 })

-- each page that is reserved for a spread object is a page
abbrev pub ReservedPages : Type 0
ReservedPages = (T : Setup) (g : ℕ) (c : Record) → Situation T g c → (i : ℕ) → i < length c.memory.reserved.pages
    → slice_index c.memory.reserved.pages i < T.sizes.pages

-- and there are at most as many of them as a lead page and the data pages of the object that is made next
abbrev pub ReservedFew : Type 0
ReservedFew = (T : Setup) (g : ℕ) (c : Record) → Situation T g c → (slot words before : ℕ) (first : ℕ → ℕ) → NewObject T c slot words before first
    → length c.memory.reserved.pages ≤ suc (data_pages_of T.sizes.page_words words before)

-- what is left of a page is in the pages
abbrev pub RoomLies : Type 0
RoomLies = (T : Setup) (page fill n : ℕ) → page < T.sizes.pages → fill + n ≤ T.sizes.page_words
    → LieInPages T (page * T.sizes.page_words + fill) n

-- a goroutine that makes and claims nothing is free of each slot
abbrev pub FreeOfSlots : Type 0
FreeOfSlots = (m : Rec) (slot : ℕ) → m.make ≡ Rest → m.claim ≡ Idle → IsFreeOf m slot
