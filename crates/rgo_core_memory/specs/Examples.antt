-- A small table: where its words are, how it opens, and what is not an image.
use Rattle.std.specs.Prelude.{◌≡◌, ℕ, suc, ◌==◌, true, false, if◌then◌else◌, List, [], ◌∷◌, Some, None, pos, negsuc, length, replicate, slice_index}
use Rattle.rgo_sound.specs.Memory.Memory.{Channel, Object, SliceObject, StructObject}
use Rattle.rgo_core_memory.specs.Spread.{spread_opening, spread_spot, table_words, words_before}
use Rattle.rgo_core_memory.specs.Records.{with_object_apart, with_reserved}
use Rattle.rgo_sound.specs.Memory.declared.values.Value.TheVariants as value
use Rattle.rgo_sound.specs.RegionMachine.States.{RegionState}
use Rattle.rgo_core_memory.specs.declared.layout.TableSizes.{TableSizes}
use Rattle.rgo_core_memory.specs.Encoding.{Spot, address, content, encode}
use Rattle.rgo_core_memory.specs.Image.{StateImage}
use Rattle.rgo_core_memory.specs.Opening.{first_record, first_words, nowhere}
use Rattle.rgo_core_memory.specs.Owed.{owed}
use Rattle.rgo_core_memory.specs.Pages.{PageChain}
use Rattle.rgo_core_memory.specs.Parts.{Closing, Living, Own, Use, Vacant, pages_at}
use Rattle.rgo_core_memory.specs.Records.{Calm, Claims, ClosesSlot, Fill, Giving, ReturnsChain, Got, Idle, Owes, Owns, Past, Rec, with_own_page, without_slot}
use Rattle.rgo_core_memory.specs.Words.{ListHasWords, Words, all_words, base, cell_at, clock_at, count_at, head_at, made_at, next_at, state_at, variable_at}

-- one page of four words, one slot for a region, one package variable
abbrev pub small : TableSizes
small = record { pages = 1; page_words = 4; slots = 1; variables = 1 }

abbrev pub no_words : List ℕ
no_words = replicate 107 0

-- page 0 leads to page 1, which is the last
abbrev pub link : ℕ → ℕ
link p = if p == 0 then 2 else 0

-- the words of the only object begin at word 1 of page 2
abbrev pub spot : ℕ → ℕ → Spot
spot o i = record { page = 2; offset = suc i }

abbrev pub start : ℕ → Spot
start o = record { page = 2; offset = 1 }

-- 257 elements
abbrev pub long : Object
long = SliceObject (replicate 257 value.Nil)

-- the chain of slot 0 is returned by goroutine 5, slot 1 has region 7, the others are free
abbrev pub uses : ℕ → Use
uses s = if s == 0 then Closing 5 else (if s == 1 then Living 7 else Vacant)

-- pages 0 and 2 are claimed for slot 0, page 1 for slot 1
abbrev pub states : ℕ → ℕ
states p = if p == 1 then 2 else 1

-- page 0 is in that state, and no other page is claimed
abbrev pub first_alone : ℕ → ℕ → ℕ
first_alone n p = if p == 0 then n else 0

abbrev pub with_one_page : Rec
with_one_page = with_own_page first_record 3 1

pub record MemoryExamples : Type 0 where
  -- ---- where the words are
  pub clock : clock_at ≡ 0
  pub made : made_at ≡ 16
  pub state : state_at small 0 ≡ 32
  pub next : next_at small 0 ≡ 49
  pub count : count_at small 0 ≡ 66
  pub head : head_at small 0 ≡ 84
  pub first : base small ≡ 102
  pub cell : cell_at small 0 3 ≡ 105
  pub variable : variable_at small 0 ≡ 106
  pub all : all_words small ≡ 107
  pub object : address small start 0 ≡ 9
  -- ---- how the table opens
  pub wide : length (first_words small) ≡ 107
  pub none : slice_index (first_words small) clock_at ≡ 0
  pub one : slice_index (first_words small) made_at ≡ 1
  pub free : slice_index (first_words small) (count_at small 0) ≡ 0
  pub global : slice_index (first_words small) (count_at small 1) ≡ 2
  -- without Global's count, and without `main`, the words are not an image
  pub no_global : (s : RegionState) → StateImage small no_words (first_record ∷ []) s nowhere → ⊥
  pub no_main : (w : Words) → w.made ≡ 1 → ListHasWords small no_words w → ⊥
  -- ---- values and words
  pub minus_one : encode (λ o. 0) (value.Int (negsuc 0)) ≡ 18446744073709551615
  pub truth : encode (λ o. 0) (value.Bool true) ≡ 1
  pub nil : encode (λ o. 0) value.Nil ≡ 0
  pub pointer : encode (address small start) (value.Object 0) ≡ 10
  pub field : content (StructObject (value.Int (pos 3) ∷ [])) 0 ≡ Some (value.Int (pos 3))
  pub no_field : content (StructObject (value.Int (pos 3) ∷ [])) 1 ≡ None
  pub amount : content (SliceObject (value.Bool true ∷ [])) 0 ≡ Some (value.Int (pos 1))
  pub element : content (SliceObject (value.Bool true ∷ [])) 1 ≡ Some (value.Bool true)
  pub control : content (Channel 2 (value.Nil ∷ []) false) 0 ≡ None
  pub capacity : content (Channel 2 (value.Nil ∷ []) false) 1 ≡ Some (value.Int (pos 2))
  pub buffer : content (Channel 2 (value.Nil ∷ []) false) 2 ≡ None
  -- ---- pages and chains
  pub chain : PageChain link 1 (0 ∷ 1 ∷ [])
  pub no_chain : PageChain link 2 (0 ∷ 1 ∷ []) → ⊥
  pub short_chain : PageChain link 1 (0 ∷ []) → ⊥
  pub claimed : pages_at states 3 0 ≡ 2
  pub claimed_other : pages_at states 3 1 ≡ 1
  pub to_give : owed uses states 3 2 ≡ 2
  -- the last slot is Global's; a page is claimed for no slot above it
  pub last_slot : (slot : ℕ → ℕ) → Own small (first_alone 2) (λ p o. 0) [] [] [] [] slot spot
  pub no_slot : (slot : ℕ → ℕ) → Own small (first_alone 3) (λ p o. 0) [] [] [] [] slot spot → ⊥
  -- ---- an object of 257 elements over a lead page and two data pages of 256 words
  pub all_of_it : table_words 256 long ≡ 260
  pub long_length : spread_spot 256 long (4 ∷ 7 ∷ 2 ∷ []) 0 ≡ record { page = 4; offset = 0 }
  pub first_element : spread_spot 256 long (4 ∷ 7 ∷ 2 ∷ []) 1 ≡ record { page = 7; offset = 0 }
  pub last_of_page : spread_spot 256 long (4 ∷ 7 ∷ 2 ∷ []) 256 ≡ record { page = 7; offset = 255 }
  pub last_element : spread_spot 256 long (4 ∷ 7 ∷ 2 ∷ []) 257 ≡ record { page = 2; offset = 0 }
  pub first_number : spread_spot 256 long (4 ∷ 7 ∷ 2 ∷ []) 258 ≡ record { page = 4; offset = 1 }
  pub holds_length : spread_opening long (4 ∷ 7 ∷ 2 ∷ []) 0 ≡ 257
  pub holds_number : spread_opening long (4 ∷ 7 ∷ 2 ∷ []) 259 ≡ 3
  -- a structure has no word before its fields, and a channel two before its places
  pub struct_words : words_before (StructObject (value.Nil ∷ [])) ≡ 0
  pub channel_words : words_before (Channel 300 [] false) ≡ 2
  -- ---- records
  pub reserves : (with_reserved (with_reserved first_record 4 1) 7 1).reserved.pages ≡ 4 ∷ 7 ∷ []
  pub reserves_alone : (with_reserved first_record 4 1).fills ≡ []
  pub gives_all_up : (with_object_apart (with_reserved first_record 4 1)).reserved.pages ≡ []
  pub owns : Owns (with_one_page ∷ []) 0 (record { slot = 1; page = 3; fill = 0 })
  pub owns_not : (f : Fill) → Owns (first_record ∷ []) 0 f → ⊥
  pub drops : (without_slot with_one_page 1).fills ≡ []
  pub keeps : (without_slot with_one_page 0).fills ≡ with_one_page.fills
  pub claims : Claims (Got 3 1) 1
  pub claims_not : Claims Idle 1 → ⊥
  pub closes : ClosesSlot (Owes 4) 4
  pub closes_not : ClosesSlot Calm 4 → ⊥
  pub gives : ReturnsChain (Giving 4 2) 4 2
  pub gives_not : ReturnsChain (Past 4 2 0) 4 3 → ⊥
