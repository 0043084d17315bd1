-- Records that work at spread objects, in pages of four words: what they know of a cell, and what they reserve.
use Rattle.std.specs.Prelude.{◌≡◌, ◌+◌, ℕ, List, [], ◌∷◌, Some, slice_set}
use Rattle.rgo_sound.specs.Code.Code.{Code, CodeFn, CodeInstr, Do}
use Rattle.rgo_sound.specs.Machine.declared.limits.Limits.{Limits}
use Rattle.rgo_sound.specs.RegionMachine.Examples.{small_code, int_slot, main_of, node_struct, node_slot, plain_instr}
use Rattle.rgo_sound.specs.Tac.declared.regions.Class.TheVariants.{Name, NoClass}
use Rattle.rgo_sound.specs.Typed.declared.actions.Action.TheVariants.{Load, New}
use Rattle.rgo_sound.specs.Typed.declared.programs.Struct.{Struct}
use Rattle.rgo_sound.specs.WellFormed.TypeRules.{int}
use Rattle.rgo_sound.specs.RegionMachine.declared.regions.Region.TheVariants.{Numbered}
use Rattle.rgo_core_frames.specs.goroutines.Opening.{no_record}
use Rattle.rgo_core_frames.specs.shown.WordFrames.{WordFrame}
use Rattle.rgo_core_memory.specs.Opening.{first_words}
use Rattle.rgo_core_memory.specs.Words.{base, cell_at}
use Rattle.rgo_core.specs.moves.Cells.{IsAtSpread, IsInSlice, IsLocated, IsSpreadOut, IsWhole, PointsToSpread, PointsToWhole, locates, measures}
use Rattle.rgo_core.specs.examples.Channels.{with_words}
use Rattle.rgo_core.specs.moves.Claims.{reserves}
use Rattle.rgo_core.specs.Core.{Setup, layout}
use Rattle.rgo_core.specs.examples.Links.{loading_code}
use Rattle.rgo_core.specs.ties.Links.{Finds, IsMakingIn}
use Rattle.rgo_core.specs.moves.NewObjects.{record_made_apart, reserved_address}
use Rattle.rgo_core.specs.Next.{IsAtOp}
use Rattle.rgo_core.specs.Records.{Record, begins_with, instructed}

-- eight pages of four words
abbrev pub with_code : Code → Limits → Setup
with_code code limits = record { code = code; sizes = record { page_words = 4; pages = 8; regions = 2 }; limits = limits }

-- `main` at its first instruction
abbrev pub frame_of : List ℕ → WordFrame
frame_of words = record { function = 0; next = 0; variables = words }

-- ---- elements

abbrev pub element_setup : Limits → Setup
element_setup limits = with_code loading_code limits

-- it has read that the slice at address 0 has this many elements, and loads element 2
abbrev pub reads_length : (many : ℕ) → Record
reads_length n = measures (with_words (1 ∷ 2 ∷ 0 ∷ [])) 0 n

-- ---- fields

-- structs of this many fields
abbrev pub narrow : Struct
narrow = record node_struct { fields = int ∷ int ∷ int ∷ int ∷ [] }

abbrev pub wide : Struct
wide = record node_struct { fields = int ∷ int ∷ int ∷ int ∷ int ∷ int ∷ [] }

abbrev pub loads_field : CodeInstr
loads_field = plain_instr (Do (Some 1) (Load 5) (0 ∷ []) [])

abbrev pub of_field : CodeFn
of_field = main_of (node_slot (Name 0) ∷ int_slot ∷ []) (loads_field ∷ [])

-- `main` loads field 5 of variable 0
abbrev pub fields : Struct → Limits → Setup
fields struct limits = with_code (small_code (struct ∷ []) (of_field ∷ [])) limits

-- of a struct at address 8
abbrev pub at_field : Record
at_field = with_words (9 ∷ 0 ∷ [])

abbrev pub IsBeforeField : Struct → Limits → Type 0
IsBeforeField struct limits = IsAtOp (fields struct limits).code at_field (Do (Some 1) (Load 5) (0 ∷ []) [])

-- it has read that the cell is in page 5, and words in which the lead page has this number for it
abbrev pub at_cell : Record
at_cell = locates at_field 8 5 5

abbrev pub with_number : Limits → ℕ → List ℕ
with_number limits n = slice_set (first_words (layout (fields wide limits))) (base (layout (fields wide limits)) + 9) n

-- ---- new objects

abbrev pub makes_it : CodeInstr
makes_it = plain_instr (Do (Some 0) (New 0) [] [])

-- `main` makes a struct of six fields in the region of name 0, which is in slot 1
abbrev pub making_setup : Limits → Setup
making_setup limits = with_code (small_code (wide ∷ []) (main_of (node_slot (Name 0) ∷ []) (makes_it ∷ []) ∷ [])) limits

abbrev pub makes : Record
makes = begins_with (record no_record {
  frames = frame_of (0 ∷ []) ∷ [];
  holder = record no_record.holder { environments = record { lent = NoClass; names = (0, Numbered 1) ∷ []; protections = [] } ∷ [] };
})

-- with two pages for it
abbrev pub two_pages : Record
two_pages = reserves (reserves makes 3 1) 6 1

pub record SpreadObjectExamples : Type 0 where
  -- three elements and their length fit a page, and four do not
  pub whole : (limits : Limits) (i : IsInSlice (reads_length 3) 0 2) → IsWhole (element_setup limits) i
  pub not_whole : (limits : Limits) (i : IsInSlice (reads_length 4) 0 2) → IsWhole (element_setup limits) i → ⊥
  pub spread_out : (limits : Limits) (i : IsInSlice (reads_length 4) 0 2) → IsSpreadOut (element_setup limits) i
  pub not_spread_out : (limits : Limits) (i : IsInSlice (reads_length 3) 0 2) → IsSpreadOut (element_setup limits) i → ⊥
  -- one word is before the elements
  pub at_element : (limits : Limits) → IsAtSpread (element_setup limits) (reads_length 9) 0 1 2
  pub other_element : (limits : Limits) → IsAtSpread (element_setup limits) (reads_length 9) 0 1 3 → ⊥
  -- four fields fit a page, and six do not
  pub points_to_whole : (limits : Limits) → (a : IsBeforeField narrow limits) × PointsToWhole (fields narrow limits) at_field a 0
  pub points_to_spread : (limits : Limits) → (a : IsBeforeField wide limits) × PointsToSpread (fields wide limits) at_field a 0
  pub not_to_whole : (limits : Limits) (a : IsBeforeField wide limits) → PointsToWhole (fields wide limits) at_field a 0 → ⊥
  pub not_to_spread : (limits : Limits) (a : IsBeforeField narrow limits) → PointsToSpread (fields narrow limits) at_field a 0 → ⊥
  pub at_wide : (limits : Limits) → IsAtSpread (fields wide limits) at_field 8 0 5
  -- a cell is located at its own word, and only it, until the next instruction
  pub located : (limits : Limits) → IsLocated (fields wide limits) at_cell 8 5 (cell_at (layout (fields wide limits)) 5 1)
  pub other_page : (limits : Limits) → IsLocated (fields wide limits) at_cell 8 5 (cell_at (layout (fields wide limits)) 6 1) → ⊥
  pub other_cell : (limits : Limits) (word : ℕ) → IsLocated (fields wide limits) at_cell 8 4 word → ⊥
  pub other_object : (limits : Limits) (word : ℕ) → IsLocated (fields wide limits) at_cell 9 5 word → ⊥
  pub late : (limits : Limits) (word : ℕ) → IsLocated (fields wide limits) (record at_cell { clock = instructed at_cell.clock }) 8 5 word → ⊥
  pub never : (limits : Limits) (word : ℕ) → IsLocated (fields wide limits) at_field 8 5 word → ⊥
  -- the lead page still has the number, or it has not
  pub finds : (limits : Limits)
      → Finds (fields wide limits).code (layout (fields wide limits)) (with_number limits 6) at_cell (record { address = 8; cell = 5; page = 5; steps = 0 })
  pub changed : (limits : Limits)
      → Finds (fields wide limits).code (layout (fields wide limits)) (with_number limits 7) at_cell (record { address = 8; cell = 5; page = 5; steps = 0 })
      → ⊥
  -- the lead page is the first that was reserved; an object that is made takes all
  pub reserved : two_pages.memory.reserved.pages ≡ 3 ∷ 6 ∷ []
  pub of_slot : two_pages.memory.reserved.slot ≡ 1
  pub taken : two_pages.clock.share.taken ≡ 2
  pub address : (limits : Limits) → reserved_address (making_setup limits) two_pages ≡ 12
  pub made : (limits : Limits) (a : IsAtOp (making_setup limits).code two_pages (Do (Some 0) (New 0) [] []))
      → (record_made_apart (making_setup limits) two_pages a (Some 0)).memory.reserved.pages ≡ []
  -- they are of the slot of the region in which the next object is made
  pub in_slot : (limits : Limits) → IsMakingIn (making_setup limits).code (layout (making_setup limits)) makes 1
  pub other_slot : (limits : Limits) → IsMakingIn (making_setup limits).code (layout (making_setup limits)) makes 0 → ⊥
  pub making_none : (limits : Limits) → IsMakingIn (fields wide limits).code (layout (fields wide limits)) at_field 1 → ⊥
