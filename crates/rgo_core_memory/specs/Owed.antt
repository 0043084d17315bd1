-- The pages that chains have still to free: the end of a last stake adds those of the region, and each freed page is one less. The
-- region machine returns all pages of a region in one step, and a goroutine one by one. This number is the difference.
use Rattle.std.specs.Prelude.{◌≡◌, ◌≢◌, ℕ, zero, suc, ◌+◌, ◌<◌, List, Some, slice_get, slice_set, slice_index}
use Rattle.rgo_sound.specs.Code.Code.{Code}
use Rattle.rgo_sound.specs.RegionMachine.Regions.{RegionInfo}
use Rattle.rgo_sound.specs.RegionMachine.States.{RegionState}
use Rattle.rgo_sound.specs.Good.{AllGood}
use Rattle.rgo_core_memory.specs.declared.layout.TableSizes.{TableSizes}
use Rattle.rgo_core_memory.specs.Words.{put_at, state_at, count_at}
use Rattle.rgo_core_memory.specs.Records.{Past, Gave, Rec, HasRecord}
use Rattle.rgo_core_memory.specs.Parts.{Use, Vacant, Living, Closing, pages_at}
use Rattle.rgo_core_memory.specs.Image.{Where, StateImage}

-- for a slot with n pages: those of a live region are not to be freed
abbrev pub owed_at : Use → ℕ → ℕ
owed_at Vacant n = 0
owed_at (Living k) n = 0
owed_at (Closing g) n = n

-- for the first n slots
abbrev pub owed : (ℕ → Use) → (ℕ → ℕ) → ℕ → ℕ → ℕ
owed uses states pages zero = 0
owed uses states pages (suc n) = owed_at (uses n) (pages_at states pages n) + owed uses states pages n

abbrev pub to_free : TableSizes → List ℕ → (ℕ → Use) → ℕ
to_free z words uses = owed uses (λ p. slice_index words (state_at z p)) z.pages z.slots

-- the end of the last stake, a page that is freed, and a slot that is freed
pub record StillOwed : Type 0 where
  pub leave : (z : TableSizes) (words : List ℕ) (recs : List Rec) (s : RegionState) (places : Where)
      → StateImage z words recs s places
      → (g j n : ℕ) (info : RegionInfo) → slice_get s.regions j ≡ Some info → 0 < info.stakes
      → to_free z (slice_set words (count_at z (places.slot j)) n) (put_at places.uses (places.slot j)
      (Closing g)) ≡ to_free z words places.uses + info.pages
  pub free : (code : Code) (z : TableSizes) (words : List ℕ) (recs : List Rec) (s : RegionState) (places : Where)
      → AllGood code s → StateImage z words recs s places
      → (g r p q : ℕ) (c : Rec) → HasRecord recs g c → c.give ≡ Past r (suc p) q
      → suc (to_free z (slice_set words (state_at z p) 0) places.uses) ≡ to_free z words places.uses
  pub slot : (code : Code) (z : TableSizes) (words : List ℕ) (recs : List Rec) (s : RegionState) (places : Where)
      → AllGood code s → StateImage z words recs s places
      → (g r : ℕ) (c : Rec) → HasRecord recs g c → c.give ≡ Gave r
      → to_free z (slice_set words (count_at z r) 0) (put_at places.uses r Vacant) ≡ to_free z words places.uses

-- ---- Slot by slot: a goroutine knows only its own slot, and others claim and free pages of theirs at the same time.

-- how many pages are claimed for a slot
abbrev pub claimed_for : TableSizes → List ℕ → (slot : ℕ) → ℕ
claimed_for z words s = pages_at (λ p. slice_index words (state_at z p)) z.pages s

pub record StillClaimed : Type 0 where
  -- for a live region its pages
  pub live : (z : TableSizes) (words : List ℕ) (recs : List Rec) (s : RegionState) (places : Where) → StateImage z words recs s places
      → (j : ℕ) (info : RegionInfo) → slice_get s.regions j ≡ Some info → 0 < info.stakes
      → info.pages ≡ claimed_for z words (places.slot j)
  -- a page that is freed is one less for its slot alone
  pub free : (code : Code) (z : TableSizes) (words : List ℕ) (recs : List Rec) (s : RegionState) (places : Where)
      → AllGood code s → StateImage z words recs s places
      → (g r p q : ℕ) (c : Rec) → HasRecord recs g c → c.give ≡ Past r (suc p) q
      → (suc (claimed_for z (slice_set words (state_at z p) 0) r) ≡ claimed_for z words r)
      × ((t : ℕ) → t ≢ r → claimed_for z (slice_set words (state_at z p) 0) t ≡ claimed_for z words t)
  -- a page that is claimed is one more for its slot alone
  pub claim : (z : TableSizes) (words : List ℕ) (recs : List Rec) (s : RegionState) (places : Where) → StateImage z words recs s places
      → (p r t : ℕ) → p < z.pages → slice_index words (state_at z p) ≡ 0 → t ≢ r
      → claimed_for z (slice_set words (state_at z p) (suc r)) t ≡ claimed_for z words t
  -- none is left if the chain was returned
  pub none : (code : Code) (z : TableSizes) (words : List ℕ) (recs : List Rec) (s : RegionState) (places : Where)
      → AllGood code s → StateImage z words recs s places
      → (g r : ℕ) (c : Rec) → HasRecord recs g c → c.give ≡ Gave r → claimed_for z words r ≡ 0
  -- no other word counts
  pub beside : (z : TableSizes) (words : List ℕ) (i n : ℕ) → ((p : ℕ) → p < z.pages → i ≢ state_at z p)
      → (t : ℕ) → claimed_for z (slice_set words i n) t ≡ claimed_for z words t
