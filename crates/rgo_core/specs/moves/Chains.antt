-- Accesses to the chains of pages: a claimed page is hung and linked; a chain is returned page by page. The region machine makes no
-- step: it counted the page when it was claimed, and all pages of the region as returned when its last stake ended. A goroutine that
-- claims has a stake; one that returns a chain has ended the last stake. So the two never work at one chain at the same time.
use Rattle.std.specs.Prelude.{◌≡◌, ◌<◌, ◌≤◌, ◌-◌, ℕ, suc}
use Rattle.rgo_core_memory.specs.Records.{Calm, Gave, Giving, Got, Hung, Idle, Owes, Past, Rec as MemoryRec, with_claim, with_give}
use Rattle.rgo_core_memory.specs.Words.{count_at, head_at, next_at, state_at}
use Rattle.rgo_core.specs.Core.{Setup, layout}
use Rattle.rgo_core.specs.Records.{Record, accessed}
use Rattle.rgo_core.specs.Steps.{Moves}

-- the record after an access that changes only its part of memory
abbrev pub remembers : Record → MemoryRec → Record
remembers c m = record c { clock = accessed c.clock; memory = m }

-- The claimed page becomes the head of its slot's chain. The head found is kept in the record: it is in no word until the link is stored.
abbrev pub HangMove : Type 0
HangMove = (T : Setup) (g : ℕ) (c : Record) (p r : ℕ) → c.memory.claim ≡ Got p r
    → Moves T g c (head_at (layout T) r) (λ n. suc p) (λ n d. d ≡ remembers c (with_claim c.memory (Hung p r n)))

-- its next word is stored
abbrev pub LinkMove : Type 0
LinkMove = (T : Setup) (g : ℕ) (c : Record) (p r old : ℕ) → c.memory.claim ≡ Hung p r old
    → Moves T g c (next_at (layout T) p) (λ n. old) (λ n d. d ≡ remembers c (with_claim c.memory Idle))

-- The head of a chain that is being returned is loaded: a page by its number plus 1, or 0. At most as many pages are owed as the table
-- has, which bounds the loop over the chain.
abbrev pub HeadMove : Type 0
HeadMove = (T : Setup) (g : ℕ) (c : Record) (r : ℕ) → c.memory.give ≡ Owes r
    → Moves T g c (head_at (layout T) r) (λ n. n)
    (λ n d. (d ≡ remembers c (with_give c.memory (Giving r n))) × (n ≤ T.sizes.pages) × (c.clock.owed ≤ T.sizes.pages))

-- the page after it is loaded, while it is still claimed
abbrev pub NextMove : Type 0
NextMove = (T : Setup) (g : ℕ) (c : Record) (r p : ℕ) → c.memory.give ≡ Giving r (suc p)
    → Moves T g c (next_at (layout T) p) (λ n. n)
    (λ n d. (d ≡ remembers c (with_give c.memory (Past r (suc p) n))) × (n ≤ T.sizes.pages))

-- a page is counted as returned when it is free
abbrev pub frees : Record → (slot next : ℕ) → Record
frees c r q = record c {
  clock = record (accessed c.clock) { share = record c.clock.share { returned = suc c.clock.share.returned }; owed = c.clock.owed - 1 };
  memory = with_give c.memory (Giving r q);
}

-- The page is free again; it was owed. From this moment another goroutine may claim it, so its next word must have been loaded.
abbrev pub FreeMove : Type 0
FreeMove = (T : Setup) (g : ℕ) (c : Record) (r p q : ℕ) → c.memory.give ≡ Past r (suc p) q
    → Moves T g c (state_at (layout T) p) (λ n. 0) (λ n d. (d ≡ frees c r q) × (0 < c.clock.owed))

-- No page is left: the head is cleared, and none is owed. That none is owed is not a premise: the chain has all pages of the region.
abbrev pub ClearMove : Type 0
ClearMove = (T : Setup) (g : ℕ) (c : Record) (r : ℕ) → c.memory.give ≡ Giving r 0
    → Moves T g c (head_at (layout T) r) (λ n. 0) (λ n d. (d ≡ remembers c (with_give c.memory (Gave r))) × (c.clock.owed ≡ 0))

-- and the slot is free, after its chain is empty
abbrev pub SlotMove : Type 0
SlotMove = (T : Setup) (g : ℕ) (c : Record) (r : ℕ) → c.memory.give ≡ Gave r
    → Moves T g c (count_at (layout T) r) (λ n. 0) (λ n d. d ≡ remembers c (with_give c.memory Calm))
