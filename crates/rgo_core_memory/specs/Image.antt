-- The image: which state of the region machine words and records show. Each part relates a few rows of words with the records that
-- explain them, so that an access has to be checked against the parts that read its word.
use Rattle.std.specs.Prelude.{ℕ, List, length}
use Rattle.rgo_sound.specs.RegionMachine.States.{RegionState}
use Rattle.rgo_core_memory.specs.declared.layout.TableSizes.{TableSizes}
use Rattle.rgo_core_memory.specs.Words.{Words, ListHasWords, cell_at}
use Rattle.rgo_sound.specs.Memory.declared.values.Value.{Value}
use Rattle.rgo_core_memory.specs.Encoding.{Spot, address, encode}
use Rattle.rgo_core_memory.specs.Records.{Rec}
use Rattle.rgo_core_memory.specs.Ground.{Ground, ground_of, taken_of}
use Rattle.rgo_core_memory.specs.Pages.{Place, Pages}
use Rattle.rgo_core_memory.specs.Parts.{Lies, Own, OwnPagesFilled, Use, SlotCounts, Paged, Taken}

-- What the words and records do not show. It exists in proofs only, and each law names how its access changes it.
pub record Where : Type 0 where
  -- the slot of each region that was made, and what each slot is used for
  pub slot : ℕ → ℕ
  pub uses : ℕ → Use
  -- the spot of each word of each object
  pub spot : ℕ → ℕ → Spot
  -- where each object begins
  pub start : ℕ → Spot
  -- Where each page is, the pages of each chain, the true next page of each page and the true head of each chain. These are in words
  -- except while a goroutine is at work on them. Then they are in its record.
  pub at : ℕ → Place
  pub chain : ℕ → List ℕ
  pub link : ℕ → ℕ
  pub top : ℕ → ℕ
  -- the page of each step that took one
  pub page : ℕ → ℕ

pub record MemoryImage (z : TableSizes) (words : List ℕ) (recs : List Rec) (x : Ground) (a : Where) : Type 0 where
  pub w : Words
  pub shows : ListHasWords z words w
  pub lies : Lies z w.variable w.cell x.variables x.heap x.owners x.regions a.spot a.start
  pub own : Own z w.state w.cell recs x.heap x.owners x.regions a.slot a.spot
  pub filled : OwnPagesFilled z recs x.held (length x.regions) a.slot
  pub counts : SlotCounts z w.count a.top recs x.regions a.slot a.uses
  pub pages : Pages w.state w.next w.head recs a.at a.chain a.link a.top
  pub paged : Paged z w.state x.regions x.global_pages a.slot
  pub taken : Taken z w.state w.count recs (taken_of x) (length x.regions) a.slot a.page

-- the same of a state
abbrev pub StateImage : TableSizes → List ℕ → List Rec → RegionState → Where → Type 0
StateImage z words recs s places = MemoryImage z words recs (ground_of s) places

-- the position of an object's word, and the word of a value
abbrev pub word_at : TableSizes → Where → ℕ → ℕ → ℕ
word_at z places o i = cell_at z (places.spot o i).page (places.spot o i).offset

abbrev pub word_of_value : TableSizes → Where → Value → ℕ
word_of_value z places v = encode (address z places.start) v
