-- What the record of a goroutine has of memory: its own pages, the object that it makes, the page that it claims, and the
-- chain that it returns. These are the places where words alone are not enough: what a goroutine has done by halves is in its record.
use Rattle.std.specs.Prelude.{◌≡◌, ℕ, List, [], ◌∷◌, ◌++◌, Option, None, Some, slice_get, nat_eq, if◌then◌else◌}
use Rattle.rgo_sound.specs.Memory.Memory.{Object}

-- an own page, claimed for a slot, and how many words of it are filled
pub record Fill : Type 0 where
  pub slot : ℕ
  pub page : ℕ
  pub fill : ℕ

-- the pages claimed for a slot and for a spread object that is made there, the lead page first
pub record Reserved : Type 0 where
  pub slot : ℕ
  pub pages : List ℕ

-- nothing; an object after what is filled of an own page, with the numbers of its words stored so far; or the same of a
-- spread object, in the reserved pages
pub data Make : Type 0 where
  Rest : Make
  Amid : (fill : Fill) (object : Object) (stored : List ℕ) → Make
  Across : (object : Object) (stored : List ℕ) → Make

-- Nothing; a page that is claimed for a slot; or one that was put at its head before `old`, with its next word not yet stored. A
-- goroutine must finish this before it ends its stake there.
pub data PageClaim : Type 0 where
  Idle : PageClaim
  Got : (page slot : ℕ) → PageClaim
  Hung : (page slot old : ℕ) → PageClaim

-- Nothing; or the chain of a slot is being returned: its head is not loaded yet; the next page is known, by its number plus 1, or
-- 0 for none; so is the page after it; or all pages are free and the head is 0.
pub data Give : Type 0 where
  Calm : Give
  Owes : (slot : ℕ) → Give
  Giving : (slot cursor : ℕ) → Give
  Past : (slot cursor next : ℕ) → Give
  Gave : (slot : ℕ) → Give

-- The number of elements of a slice, read from its first word, which has this address. `steps` is how many instructions the goroutine
-- had made by then. After the next one its region may be gone and another slice have this address.
pub record Measured : Type 0 where
  pub address : ℕ
  pub elements : ℕ
  pub steps : ℕ

-- The data page that has a cell of a spread object, read from its lead page; the object has this address. `steps` is as above.
pub record Located : Type 0 where
  pub address : ℕ
  pub cell : ℕ
  pub page : ℕ
  pub steps : ℕ

pub record Rec : Type 0 where
  pub fills : List Fill
  pub reserved : Reserved
  pub make : Make
  pub claim : PageClaim
  pub give : Give
  -- the page states and the counts that its current search has found not 0
  pub tried_pages : List ℕ
  pub tried_slots : List ℕ
  -- the slice whose length it has read last
  pub measured : Option Measured
  -- the cell whose data page it has read last
  pub located : Option Located

-- goroutine g has this record
abbrev pub HasRecord : List Rec → ℕ → Rec → Type 0
HasRecord recs g c = slice_get recs g ≡ Some c

abbrev pub Within : {A : Type 0} → A → List A → Type 0
Within x l = (k : ℕ) × (slice_get l k ≡ Some x)

-- the own page is that goroutine's
abbrev pub Owns : List Rec → ℕ → Fill → Type 0
Owns recs g f = (c : Rec) × HasRecord recs g c × Within f c.fills

-- the chain of the slot is being returned, from this page on
abbrev pub ReturnsChain : Give → ℕ → ℕ → Type 0
ReturnsChain Calm r h = ⊥
ReturnsChain (Owes s) r h = ⊥
ReturnsChain (Gave s) r h = ⊥
ReturnsChain (Giving s c) r h = (s ≡ r) × (c ≡ h)
ReturnsChain (Past s c q) r h = (s ≡ r) × (c ≡ h)

-- the slot is closed by this
abbrev pub ClosesSlot : Give → ℕ → Type 0
ClosesSlot Calm r = ⊥
ClosesSlot (Owes s) r = s ≡ r
ClosesSlot (Giving s c) r = s ≡ r
ClosesSlot (Past s c q) r = s ≡ r
ClosesSlot (Gave s) r = s ≡ r

-- a page is claimed for the slot by this
abbrev pub Claims : PageClaim → ℕ → Type 0
Claims Idle r = ⊥
Claims (Got p s) r = s ≡ r
Claims (Hung p s o) r = s ≡ r

-- ---- What accesses do to a record: each of these is the record after one access, as a function of what the access found.

-- the first own page of a slot
abbrev pub page_of : (slot : ℕ) → List Fill → Option Fill
page_of s [] = None
page_of s (f ∷ fs) = if nat_eq s f.slot then Some f else page_of s fs

-- the own pages of other slots
abbrev pub dropped : ℕ → List Fill → List Fill
dropped s [] = []
dropped s (f ∷ fs) = if nat_eq s f.slot then dropped s fs else f ∷ dropped s fs

-- a page was claimed, and is its own page there
abbrev pub with_own_page : Rec → ℕ → ℕ → Rec
with_own_page c p s = record c { fills = record { slot = s; page = p; fill = 0 } ∷ dropped s c.fills; claim = Got p s }

-- a page was claimed for a spread object
abbrev pub with_reserved : Rec → ℕ → ℕ → Rec
with_reserved c p s =
    record c { reserved = record { slot = s; pages = c.reserved.pages ++ p ∷ [] }; claim = Got p s }

abbrev pub with_claim : Rec → PageClaim → Rec
with_claim c claim = record c { claim = claim }

abbrev pub with_give : Rec → Give → Rec
with_give c give = record c { give = give }

-- a length was read
abbrev pub with_measured : Rec → Measured → Rec
with_measured c m = record c { measured = Some m }

-- a page number was read
abbrev pub with_located : Rec → Located → Rec
with_located c l = record c { located = Some l }

-- a stake there has ended
abbrev pub without_slot : Rec → ℕ → Rec
without_slot c s = record c { fills = dropped s c.fills }

-- a page, a slot that was found used
abbrev pub with_tried_page : Rec → ℕ → Rec
with_tried_page c p = record c { tried_pages = p ∷ c.tried_pages }

abbrev pub with_tried_slot : Rec → ℕ → Rec
with_tried_slot c s = record c { tried_slots = s ∷ c.tried_slots }

-- the own page of a slot filled so far
abbrev pub raised : ℕ → ℕ → List Fill → List Fill
raised s n [] = []
raised s n (f ∷ fs) = (if nat_eq s f.slot then record f { fill = n } else f) ∷ raised s n fs

-- a word more of an object was stored; the object was made
abbrev pub with_word : Rec → Fill → Object → List ℕ → Rec
with_word c f object stored = record c { make = Amid f object stored }

abbrev pub with_object_in_page : Rec → ℕ → ℕ → Rec
with_object_in_page c s n = record c { fills = raised s n c.fills; make = Rest }

-- the same of a spread object
abbrev pub with_word_apart : Rec → Object → List ℕ → Rec
with_word_apart c object stored = record c { make = Across object stored }

abbrev pub with_object_apart : Rec → Rec
with_object_apart c = record c { reserved = record c.reserved { pages = [] }; make = Rest }
