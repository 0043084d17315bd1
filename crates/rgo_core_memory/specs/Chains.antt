-- What the accesses to chains keep, and those that found a page or a slot in use. For these the region machine has no step: it counts
-- pages and does not name them, and a chain only serves to find the pages of a region again.
use Rattle.std.specs.Prelude.{◌≡◌, ◌≢◌, ℕ, suc, ◌<◌, List, [], ◌∷◌, drop, slice_set, slice_index}
use Rattle.rgo_sound.specs.Code.Code.{Code}
use Rattle.rgo_sound.specs.RegionMachine.States.{RegionState}
use Rattle.rgo_sound.specs.Good.{AllGood}
use Rattle.rgo_core_memory.specs.declared.layout.TableSizes.{TableSizes}
use Rattle.rgo_core_memory.specs.Words.{put_at, state_at, next_at, count_at, head_at}
use Rattle.rgo_core_memory.specs.Records.{Idle, Got, Hung, Calm, Owes, Giving, Past, Gave, Located, Measured, Rec, HasRecord, with_claim, with_give, with_located, with_measured, with_tried_page, with_tried_slot}
use Rattle.rgo_core_memory.specs.Pages.{Free, Chained}
use Rattle.rgo_core_memory.specs.Parts.{Vacant}
use Rattle.rgo_core_memory.specs.Image.{Where, StateImage}

-- P holds of every image and every record of a goroutine in it
abbrev pub Keeps : ((z : TableSizes) (words : List ℕ) (recs : List Rec) (s : RegionState) (places : Where) (g : ℕ)
    (c : Rec) → Type 0) → Type 0
Keeps P = (code : Code) (z : TableSizes) (words : List ℕ) (recs : List Rec) (s : RegionState) (places : Where) (g : ℕ)
    (c : Rec)
    → AllGood code s → StateImage z words recs s places → HasRecord recs g c → P z words recs s places g c

-- The claimed page becomes the head of its slot's chain. The swap comes before the store of its next word, since a swap cannot fail.
-- Until that store the true next page is in the record (`link`).
abbrev pub HangKeeps : Type 0
HangKeeps = Keeps (λ z words recs s places g c. (p r : ℕ) → c.claim ≡ Got p r
    → StateImage z (slice_set words (head_at z r) (suc p)) (slice_set recs g (with_claim c (Hung p r (slice_index words
    (head_at z r))))) s
    (record places {
      at = put_at places.at p (Chained r);
      chain = put_at places.chain r
          (p ∷ places.chain r);
      link = put_at places.link p (slice_index words (head_at z r));
      top = put_at places.top r
          (suc p);
    }))

-- its next word is stored
abbrev pub LinkKeeps : Type 0
LinkKeeps = Keeps (λ z words recs s places g c. (p r old : ℕ) → c.claim ≡ Hung p r old
    → StateImage z (slice_set words (next_at z p) old) (slice_set recs g (with_claim c Idle)) s places)

-- A chain is being returned: the head is loaded.
abbrev pub HeadKeeps : Type 0
HeadKeeps = Keeps (λ z words recs s places g c. (r : ℕ) → c.give ≡ Owes r
    → StateImage z words (slice_set recs g (with_give c (Giving r (slice_index words (head_at z r))))) s places)

-- A page's next word is loaded, while the page is still claimed and nobody else may write that word.
abbrev pub NextKeeps : Type 0
NextKeeps = Keeps (λ z words recs s places g c. (r p : ℕ) → c.give ≡ Giving r (suc p)
    → StateImage z words (slice_set recs g (with_give c (Past r (suc p) (slice_index words (next_at z p))))) s places)

-- The page is free again, and another goroutine may claim it at once. The head word still has its number, which nobody reads: the true
-- head (`top`) is in the record of the goroutine that returns the chain.
abbrev pub FreeKeeps : Type 0
FreeKeeps = Keeps (λ z words recs s places g c. (r p q : ℕ) → c.give ≡ Past r (suc p) q
    → StateImage z (slice_set words (state_at z p) 0) (slice_set recs g (with_give c (Giving r q))) s
    (record places {
      at = put_at places.at p Free;
      chain = put_at places.chain r (drop 1
          (places.chain r));
      top = put_at places.top r q;
    }))

-- no page is left: the head word is cleared, so that it is the true head again
abbrev pub ClearKeeps : Type 0
ClearKeeps = Keeps (λ z words recs s places g c. (r : ℕ) → c.give ≡ Giving r 0
    → StateImage z (slice_set words (head_at z r) 0) (slice_set recs g (with_give c (Gave r))) s places)

-- The slot is free again, last of all: a new region of this slot must find an empty chain.
abbrev pub SlotKeeps : Type 0
SlotKeeps = Keeps (λ z words recs s places g c. (r : ℕ) → c.give ≡ Gave r
    → StateImage z (slice_set words (count_at z r) 0) (slice_set recs g (with_give c Calm)) s
    (record places { uses = put_at places.uses r Vacant }))

-- A page, or a slot, was found in use. The words stay. `Taken` keeps that each of these had a step of its own.
abbrev pub TriedPageKeeps : Type 0
TriedPageKeeps = Keeps (λ z words recs s places g c. (p : ℕ) → p < z.pages → slice_index words (state_at z p) ≢ 0
    → StateImage z words (slice_set recs g (with_tried_page c p)) s places)

abbrev pub TriedSlotKeeps : Type 0
TriedSlotKeeps = Keeps (λ z words recs s places g c. (r : ℕ) → r < z.slots → slice_index words (count_at z r) ≢ 0
    → StateImage z words (slice_set recs g (with_tried_slot c r)) s places)

-- a call begins: what the last one found is forgotten
abbrev pub ForgetKeeps : Type 0
ForgetKeeps = Keeps (λ z words recs s places g c. StateImage z words (slice_set recs g
    (record c { tried_pages = []; tried_slots = [] })) s places)

-- the length of a slice was read
abbrev pub MeasuredKeeps : Type 0
MeasuredKeeps = Keeps (λ z words recs s places g c. (m : Measured) → StateImage z words (slice_set recs g (with_measured c m)) s places)

-- the number of a data page was read
abbrev pub LocatedKeeps : Type 0
LocatedKeeps = Keeps (λ z words recs s places g c. (l : Located) → StateImage z words (slice_set recs g (with_located c l)) s places)
