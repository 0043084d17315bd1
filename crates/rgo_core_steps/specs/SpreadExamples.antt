-- Spread objects by example: pages that are reserved, words that are stored in them, and cells that are reached. Pages have eight words.
use Rattle.std.specs.Prelude.{◌≡◌, ℕ, pos, true, false, List, [], ◌∷◌, Some, replicate}
use Rattle.rgo_sound.specs.Code.Code.{CodeOp, Do}
use Rattle.rgo_sound.specs.Machine.declared.limits.Limits.{Limits}
use Rattle.rgo_sound.specs.Machine.declared.limits.Sizes.{Sizes}
use Rattle.rgo_sound.specs.Memory.Memory.{Object, SliceObject}
use Rattle.rgo_sound.specs.Memory.declared.values.Value.TheVariants as value
use Rattle.rgo_sound.specs.RegionMachine.Examples.{small_code, int_slot, main_of, plain_instr, slot_in_class}
use Rattle.rgo_sound.specs.Tac.declared.regions.Class.TheVariants.{Global}
use Rattle.rgo_sound.specs.Typed.declared.actions.Action.TheVariants as action
use Rattle.rgo_sound.specs.WellFormed.TypeRules.{int, slice_of}
use Rattle.rgo_core.specs.moves.Cells.{IsAtSpread, locates, measures}
use Rattle.rgo_core.specs.moves.Chains.{remembers}
use Rattle.rgo_core.specs.examples.Channels.{with_words}
use Rattle.rgo_core.specs.moves.Claims.{claims, reserves}
use Rattle.rgo_core.specs.Core.{Setup, layout}
use Rattle.rgo_core.specs.Memory.Records.{Across, Make, Rest, with_tried_page}
use Rattle.rgo_core.specs.Memory.Words.{cell_at}
use Rattle.rgo_core.specs.Records.{Record, instructed}
use Rattle.rgo_core_steps.specs.Accesses.{Loads}
use Rattle.rgo_core_steps.specs.Examples.{idle}
use Rattle.rgo_core_steps.specs.Making.{IsIndex, IsNewWordApart, NeedsOwnPage, NeedsReserved, NewPointsApart, filling_apart, next_is_spread, object_to_make}
use Rattle.rgo_core_steps.specs.Pages.{claims_or_reserves, tries_page}
use Rattle.rgo_core_steps.specs.Searches.{upward}

abbrev pub eight : Sizes
eight = record { page_words = 8; pages = 4; regions = 2 }

-- ---- new objects

abbrev pub the_slice : CodeOp
the_slice = Do (Some 1) action.Slice (0 ∷ []) []

-- `main` makes a slice of as many ints as variable 0 says, in the region Global, whose slot is 2
abbrev pub slicing : Limits → Setup
slicing limits = record {
  code = small_code [] (main_of (int_slot ∷ slot_in_class (slice_of int) Global ∷ []) (plain_instr the_slice ∷ []) ∷ []);
  sizes = eight;
  limits = limits;
}

abbrev pub ints : ℕ → Object
ints n = SliceObject (replicate n (value.Int (pos 0)))

-- before that, with these pages reserved, and these words stored in them
abbrev pub amid : (elements : ℕ) (pages : List ℕ) → Make → Record
amid n pages make = record (with_words (n ∷ 0 ∷ [])) {
  memory = record (with_words []).memory { reserved = record { slot = 2; pages = pages }; make = make };
}

abbrev pub reserving : (elements : ℕ) (pages : List ℕ) → Record
reserving n pages = amid n pages Rest

-- a slice of nine takes a lead page and two data pages: all of them
abbrev pub all_pages : List ℕ
all_pages = 3 ∷ 1 ∷ 0 ∷ []

-- with these of its words stored
abbrev pub storing_record : List ℕ → Record
storing_record stored = amid 9 all_pages (Across (ints 9) stored)

pub record ReservedExamples (limits : Limits) : Type 0 where
  pub made : object_to_make (slicing limits) (reserving 9 []) ≡ Some (ints 9)
  pub spread : next_is_spread (slicing limits) (reserving 9 []) ≡ true
  -- seven elements and their length fit a page
  pub whole : next_is_spread (slicing limits) (reserving 7 []) ≡ false
  pub nothing : next_is_spread (slicing limits) idle ≡ false
  pub needs : NeedsReserved (slicing limits) (reserving 9 (3 ∷ 1 ∷ [])) 2
  pub has_all : (slot : ℕ) → NeedsReserved (slicing limits) (reserving 9 all_pages) slot → ⊥
  pub needs_own : NeedsOwnPage (slicing limits) (reserving 7 []) 2
  pub needs_no_own : (slot : ℕ) → NeedsOwnPage (slicing limits) (reserving 9 []) slot → ⊥
  pub not_reserved : (slot : ℕ) → NeedsReserved (slicing limits) (reserving 7 []) slot → ⊥
  -- its data pages are more than six
  pub too_large : (slot : ℕ) → NeedsReserved (slicing limits) (reserving 49 []) slot → ⊥
  -- the page is reserved after the others, or is the own page
  pub takes : claims_or_reserves (slicing limits) (reserving 9 (3 ∷ [])) 1 2 ≡ reserves (reserving 9 (3 ∷ [])) 1 2
  pub pages : (claims_or_reserves (slicing limits) (reserving 9 (3 ∷ [])) 1 2).memory.reserved.pages ≡ 3 ∷ 1 ∷ []
  pub takes_own : claims_or_reserves (slicing limits) (reserving 7 []) 1 2 ≡ claims (reserving 7 []) 1 2
  pub missed : tries_page (slicing limits) (reserving 9 (3 ∷ [])) 1 2 5
      ≡ remembers (reserving 9 (3 ∷ [])) (with_tried_page (reserving 9 (3 ∷ [])).memory 1)

-- Ten words and two page numbers are stored. The last element is the only one in the second data page.
pub record StrewnExamples (limits : Limits) : Type 0 where
  pub length : IsNewWordApart (slicing limits) (reserving 9 all_pages) 0 (cell_at (layout (slicing limits)) 3 0) 9
  pub last : IsNewWordApart (slicing limits) (storing_record (0 ∷ [])) 9 (cell_at (layout (slicing limits)) 0 0) 0
  -- the number of page 1, plus 1
  pub number : (new : IsNewWordApart (slicing limits) (storing_record (0 ∷ [])) 10 (cell_at (layout (slicing limits)) 3 1) 2) × IsIndex new
  pub not_plus : (word : ℕ) → IsNewWordApart (slicing limits) (storing_record (0 ∷ [])) 10 word 1 → ⊥
  -- an element is not a page number
  pub no_number : (word value : ℕ) (new : IsNewWordApart (slicing limits) (storing_record (0 ∷ [])) 9 word value) → IsIndex new → ⊥
  pub none_more : (word value : ℕ) → IsNewWordApart (slicing limits) (storing_record (0 ∷ [])) 12 word value → ⊥
  -- a page is not reserved yet
  pub too_early : (i word value : ℕ) → IsNewWordApart (slicing limits) (reserving 9 (3 ∷ 1 ∷ [])) i word value → ⊥
  -- all words are stored, and a page number is not
  pub unnumbered : (filling_apart (slicing limits) (storing_record (upward 0 9)) 10).memory.make ≡ Across (ints 9) (10 ∷ upward 0 9)
  pub made : (filling_apart (slicing limits) (storing_record (upward 0 11)) 11).memory.make ≡ Rest
  pub spent : (filling_apart (slicing limits) (storing_record (upward 0 11)) 11).memory.reserved.pages ≡ []
  -- the pointer to it is its lead page's first word, plus 1
  pub pointer : (filling_apart (slicing limits) (storing_record (upward 0 11)) 11).frame.frames
      ≡ record { function = 0; next = 1; variables = 9 ∷ 25 ∷ [] } ∷ []
  pub points : NewPointsApart (slicing limits) (storing_record (upward 0 11)) 11
  -- page 4 does not exist
  pub points_out : NewPointsApart (slicing limits) (amid 9 (4 ∷ 1 ∷ 0 ∷ []) (Across (ints 9) (upward 0 11))) 11 → ⊥

-- ---- cells

-- `main` loads element `variable 1` of variable 0
abbrev pub the_element : CodeOp
the_element = Do (Some 2) action.At (0 ∷ 1 ∷ []) []

abbrev pub reading : Limits → Setup
reading limits = record {
  code = small_code [] (main_of (int_slot ∷ int_slot ∷ int_slot ∷ []) (plain_instr the_element ∷ []) ∷ []);
  sizes = eight;
  limits = limits;
}

-- before that, for element 8 of a slice with that many at address 24, whose length was read
abbrev pub measured : (elements : ℕ) → Record
measured n = measures (with_words (25 ∷ 8 ∷ 0 ∷ [])) 24 n

-- and the number of its data page, which is 0
abbrev pub located_record : Record
located_record = locates (measured 9) 24 8 0

-- an instruction later
abbrev pub late : Record
late = record located_record { clock = instructed located_record.clock }

pub record ReachExamples (limits : Limits) : Type 0 where
  pub before : IsAtSpread (reading limits) (measured 9) 24 1 8
  -- no such element
  pub outside : IsAtSpread (reading limits) (measured 8) 24 1 8 → ⊥
  -- the first word of page 0
  pub loads : Loads (reading limits) located_record (cell_at (layout (reading limits)) 0 0)
  -- a word of the lead page
  pub elsewhere : Loads (reading limits) located_record (cell_at (layout (reading limits)) 3 1) → ⊥
  pub unlocated : (word : ℕ) → Loads (reading limits) (measured 9) word → ⊥
  pub too_late : (word : ℕ) → Loads (reading limits) late word → ⊥

pub record SpreadAccessExamples : Type 0 where
  pub reserved : (limits : Limits) → ReservedExamples limits
  pub strewn : (limits : Limits) → StrewnExamples limits
  pub reach : (limits : Limits) → ReachExamples limits
