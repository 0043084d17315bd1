-- The definitions of new objects, own pages and offers, each where it holds and where it must not.
use Rattle.std.specs.Prelude.{◌≡◌, ◌+◌, ℕ, false, List, [], ◌∷◌, Some, None, refl}
use Rattle.rgo_sound.specs.Code.Code.{Code, CodeFn, CodeInstr, Do}
use Rattle.rgo_core.specs.Frames.goroutines.Opening.{no_record}
use Rattle.rgo_core.specs.Frames.shown.WordFrames.{WordFrame}
use Rattle.rgo_core.specs.Memory.Records.{Across, Amid, Fill, Rest}
use Rattle.rgo_core.specs.Memory.Words.{base}
use Rattle.rgo_sound.specs.Machine.declared.limits.Limits.{Limits}
use Rattle.rgo_sound.specs.Machine.declared.limits.Sizes.{Sizes}
use Rattle.rgo_sound.specs.Memory.Memory.{Channel}
use Rattle.rgo_sound.specs.RegionMachine.Examples.{small_code, int_slot, main_of, node_struct, node_slot, plain_instr, slot_in_class}
use Rattle.rgo_sound.specs.RegionMachine.declared.regions.Region.TheVariants.{Global as GlobalRegion, Numbered}
use Rattle.rgo_sound.specs.Tac.declared.regions.Class.TheVariants.{Global}
use Rattle.rgo_sound.specs.Typed.declared.actions.Action.TheVariants as action
use Rattle.rgo_sound.specs.WellFormed.TypeRules.{int, slice_of}
use Rattle.rgo_core.specs.examples.Channels.{sending, with_words}
use Rattle.rgo_core.specs.Core.{Setup, layout}
use Rattle.rgo_core.specs.Next.{IsAtOp}
use Rattle.rgo_core.specs.Records.{Record, begins_with}
use Rattle.rgo_core_facts.specs.MemoryObjects.{PageHasNoRoom, HasWords, MakesIn, MakingRegion, NewObject, StoresNext, StoresNextApart, all_struct_words, channel_opens, channel_words, data_pages_of, first_held, numbers_below, slice_opens, spot_of, storing, storing_apart}
use Rattle.rgo_core_facts.specs.MemoryPages.{IsOwnPage}
use Rattle.rgo_core_facts.specs.MemoryWords.{PointerHasField, OffersAt}

-- two pages of four words, and one region beside Global
abbrev pub two_page_sizes : Sizes
two_page_sizes = record { page_words = 4; pages = 2; regions = 1 }

-- ---- `main` of this code makes a slice in Global, with as many elements as variable 0 says

abbrev pub slicing_instr : CodeInstr
slicing_instr = plain_instr (Do (Some 1) action.Slice (0 ∷ []) [])

abbrev pub slicing_main : CodeFn
slicing_main = main_of (int_slot ∷ slot_in_class (slice_of int) Global ∷ []) (slicing_instr ∷ [])

abbrev pub making_slices : Limits → Setup
making_slices limits = record { code = small_code [] (slicing_main ∷ []); sizes = two_page_sizes; limits = limits }

-- before that, with three elements
abbrev pub before_three : Record
before_three = with_words (3 ∷ 0 ∷ [])

abbrev pub frame_of_three : WordFrame
frame_of_three = record { function = 0; next = 0; variables = 3 ∷ 0 ∷ [] }

abbrev pub at_three : (limits : Limits) → IsAtOp (making_slices limits).code before_three (Do (Some 1) action.Slice (0 ∷ []) [])
at_three limits = record {
  w = frame_of_three;
  ws = [];
  frames = refl;
  fn = slicing_main;
  in_fn = refl;
  instr = slicing_instr;
  cur = refl;
  is = refl;
  none = refl;
  free = refl;
}

-- an own page of Global with two words left
abbrev pub half_full : Fill
half_full = record { slot = 1; page = 1; fill = 2 }

-- a record that has stored two words of a channel there
abbrev pub two_stored : Record
two_stored = storing (begins_with no_record) half_full (Channel 4 [] false) 2

-- a lead page and two data pages
abbrev pub spread_pages : List ℕ
spread_pages = 7 ∷ 9 ∷ 8 ∷ []

-- ---- `main` of this code loads the second field of a struct, to which variable 0 points

abbrev pub loading_instr : CodeInstr
loading_instr = plain_instr (Do (Some 1) (action.Load 1) (0 ∷ []) [])

abbrev pub loading_main : CodeFn
loading_main = main_of (node_slot Global ∷ node_slot Global ∷ []) (loading_instr ∷ [])

abbrev pub loading_fields : Limits → Setup
loading_fields limits = record { code = small_code (node_struct ∷ []) (loading_main ∷ []); sizes = two_page_sizes; limits = limits }

abbrev pub at_load : (limits : Limits) → IsAtOp (loading_fields limits).code (with_words (6 ∷ 0 ∷ [])) (Do (Some 1) (action.Load 1) (0 ∷ []) [])
at_load limits = record {
  w = record { function = 0; next = 0; variables = 6 ∷ 0 ∷ [] };
  ws = [];
  frames = refl;
  fn = loading_main;
  in_fn = refl;
  instr = loading_instr;
  cur = refl;
  is = refl;
  none = refl;
  free = refl;
}

pub record ObjectExamples : Type 0 where
  pub in_global : (limits : Limits) → MakesIn (making_slices limits) before_three (at_three limits) GlobalRegion
  pub in_no_other : (limits : Limits) (slot : ℕ) → MakesIn (making_slices limits) before_three (at_three limits) (Numbered slot) → ⊥
  pub has_class : (limits : Limits) → MakingRegion (making_slices limits) before_three (at_three limits) 1
  -- an int has no region
  pub no_class : (limits : Limits) → MakingRegion (making_slices limits) before_three (at_three limits) 0 → ⊥
  pub slice : (limits : Limits) → NewObject (making_slices limits) before_three 1 4 1 (slice_opens 3)
  -- an object has a word
  pub no_words : (T : Setup) (c : Record) (slot before : ℕ) (first : ℕ → ℕ) → NewObject T c slot 0 before first → ⊥
  -- an object of two words has a cell
  pub no_cell : (T : Setup) (c : Record) (slot : ℕ) (first : ℕ → ℕ) → NewObject T c slot 2 2 first → ⊥
  pub length_first : slice_opens 3 0 ≡ 3
  pub element : slice_opens 3 2 ≡ 0
  pub control : channel_opens 3 0 ≡ 0
  pub capacity : channel_opens 3 1 ≡ 3
  -- a channel without a buffer has a cell
  pub no_buffer : channel_words 0 ≡ 3
  pub buffer : channel_words 4 ≡ 6
  pub words : (limits : Limits) → HasWords (making_slices limits).code frame_of_three action.Slice (0 ∷ []) 4 1
  pub other_words : (limits : Limits) → HasWords (making_slices limits).code frame_of_three action.Slice (0 ∷ []) 3 1 → ⊥
  pub other_split : (limits : Limits) → HasWords (making_slices limits).code frame_of_three action.Slice (0 ∷ []) 4 0 → ⊥
  pub copied : (code : Code) (w : WordFrame) (n before : ℕ) → HasWords code w action.Copy (0 ∷ []) n before → ⊥
  -- a struct without fields has a word
  pub empty_struct : all_struct_words (Some (record node_struct { fields = [] })) ≡ 1
  pub two_fields : all_struct_words (Some node_struct) ≡ 2
  -- a slice with three elements fits a page of four words; with seven it has two data pages, with nine three
  pub fits_page : data_pages_of 4 4 1 ≡ 0
  pub two_data_pages : data_pages_of 4 8 1 ≡ 2
  pub three_data_pages : data_pages_of 4 10 1 ≡ 3
  pub no_page : PageHasNoRoom 4 1 None
  pub no_room : PageHasNoRoom 4 3 (Some half_full)
  pub room : PageHasNoRoom 4 2 (Some half_full) → ⊥
  pub stored : numbers_below 3 ≡ 2 ∷ 1 ∷ 0 ∷ []
  pub amid : two_stored.memory.make ≡ Amid half_full (Channel 4 [] false) (1 ∷ 0 ∷ [])
  pub accesses : two_stored.clock.accesses ≡ 2
  pub none_stored : (storing (begins_with no_record) half_full (Channel 4 [] false) 0).memory.make ≡ Rest
  -- a word that the object does not have
  pub outside : (T : Setup) (c : Record) (f : Fill) (value : ℕ) → StoresNext T c f (Channel 0 [] false) 3 value → ⊥
  -- the words of a slice with seven elements, spread over a lead page and two data pages
  pub length_leads : spot_of 4 8 1 spread_pages 0 ≡ record { page = 7; offset = 0 }
  pub first_element : spot_of 4 8 1 spread_pages 1 ≡ record { page = 9; offset = 0 }
  pub last_element : spot_of 4 8 1 spread_pages 7 ≡ record { page = 8; offset = 2 }
  pub first_number : spot_of 4 8 1 spread_pages 8 ≡ record { page = 7; offset = 1 }
  pub second_number : spot_of 4 8 1 spread_pages 9 ≡ record { page = 7; offset = 2 }
  -- an element is not in the lead page
  pub element_apart : spot_of 4 8 1 spread_pages 1 ≡ record { page = 7; offset = 1 } → ⊥
  -- their first values; a page number is stored plus 1
  pub length_value : first_held 8 (slice_opens 7) spread_pages 0 ≡ 7
  pub element_value : first_held 8 (slice_opens 7) spread_pages 7 ≡ 0
  pub number_value : first_held 8 (slice_opens 7) spread_pages 9 ≡ 9
  pub number_itself : first_held 8 (slice_opens 7) spread_pages 9 ≡ 8 → ⊥
  pub across : (storing_apart (begins_with no_record) (Channel 4 [] false) 2).memory.make ≡ Across (Channel 4 [] false) (1 ∷ 0 ∷ [])
  pub none_across : (storing_apart (begins_with no_record) (Channel 4 [] false) 0).memory.make ≡ Rest
  -- a channel with one cell is not spread, or too large
  pub one_cell : (T : Setup) (c : Record) (word value : ℕ) → StoresNextApart T c (Channel 0 [] false) 1 word value → ⊥

pub record PlaceExamples : Type 0 where
  pub own : (limits : Limits) → IsOwnPage (making_slices limits) 1 half_full
  pub of_other_slot : (limits : Limits) → IsOwnPage (making_slices limits) 0 half_full → ⊥
  pub no_such_page : (limits : Limits) → IsOwnPage (making_slices limits) 1 (record half_full { page = 2 }) → ⊥
  pub overfull : (limits : Limits) → IsOwnPage (making_slices limits) 1 (record half_full { fill = 5 }) → ⊥
  pub has_field : (limits : Limits) → PointerHasField (loading_fields limits) (with_words (6 ∷ 0 ∷ [])) (at_load limits) 0 1
  pub no_third : (limits : Limits) → PointerHasField (loading_fields limits) (with_words (6 ∷ 0 ∷ [])) (at_load limits) 0 2 → ⊥
  -- an offer at the channel with address 5, the last that fits
  pub offers : (limits : Limits) → let T = sending two_page_sizes limits in OffersAt T (with_words (6 ∷ 3 ∷ [])) (base (layout T) + 5)
  pub beyond : (limits : Limits) → let T = sending two_page_sizes limits in OffersAt T (with_words (7 ∷ 3 ∷ [])) (base (layout T) + 6) → ⊥
  pub low : (T : Setup) (c : Record) → OffersAt T c 0 → ⊥
