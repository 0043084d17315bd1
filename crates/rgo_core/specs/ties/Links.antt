-- What ties the clock of a record and its part of memory to the words: the pages that it has still to free, the length and the page number
-- that it has read, and the object that it makes in the pages that it has reserved. The images of the crates below say nothing of these,
-- since each concerns two parts of the record. They are invariants, so they must hold whatever other goroutines access.
use Rattle.std.specs.Prelude.{◌≡◌, ◌≤◌, ◌<◌, ◌+◌, ◌/◌, ℕ, suc, Bool, false, true, List, [], ◌∷◌, length, Option, Some, None, slice_get, slice_index}
use Rattle.rgo_sound.specs.Code.Code.{Code, CodeFn, CodeOp, Do}
use Rattle.rgo_sound.specs.Code.Erasure.{erased_fn}
use Rattle.rgo_sound.specs.Code.Types.{VariableHasType}
use Rattle.rgo_sound.specs.RegionMachine.Objects.{making_region}
use Rattle.rgo_sound.specs.RegionMachine.Owed.{code_function}
use Rattle.rgo_sound.specs.RegionMachine.States.{top_names}
use Rattle.rgo_sound.specs.RegionMachine.declared.regions.Region.{Region}
use Rattle.rgo_sound.specs.RegionMachine.declared.regions.Region.TheVariants.{Global as GlobalRegion, Numbered}
use Rattle.rgo_sound.specs.Typed.declared.actions.Action.{Action}
use Rattle.rgo_sound.specs.Typed.declared.actions.Action.TheVariants as action
use Rattle.rgo_sound.specs.Typed.declared.programs.Struct.{Struct}
use Rattle.rgo_sound.specs.Typed.declared.types.Type.{«Type»}
use Rattle.rgo_sound.specs.WellFormed.TypeRules.{pointer_to, slice_of}
use Rattle.rgo_core_frames.specs.shown.WordFrames.{frame_word}
use Rattle.rgo_core_memory.specs.Owed.{claimed_for}
use Rattle.rgo_core_memory.specs.Records.{Calm, Gave, Give, Giving, Located, Measured, Owes, Past}
use Rattle.rgo_core_memory.specs.Words.{base}
use Rattle.rgo_core_memory.specs.declared.layout.TableSizes.{TableSizes}
use Rattle.rgo_core.specs.Next.{IsAtOp}
use Rattle.rgo_core.specs.Records.{Record, steps_of}

-- the pages that are still claimed for the slot whose chain is being returned; nobody else claims for this slot meanwhile
abbrev pub left_to_free : TableSizes → List ℕ → Give → ℕ
left_to_free z words Calm = 0
left_to_free z words (Owes r) = claimed_for z words r
left_to_free z words (Giving r cursor) = claimed_for z words r
left_to_free z words (Past r cursor next) = claimed_for z words r
left_to_free z words (Gave r) = claimed_for z words r

-- the record is before a load or a store of an element of the slice at this address
pub data IsAtElement (code : Code) (c : Record) (address : ℕ) : Type 0 where
  BeforeLoad : (d p q : ℕ) (removes : List ℕ) (a : IsAtOp code c (Do (Some d) action.At (p ∷ q ∷ []) removes)) → frame_word a.w p ≡ suc address
      → IsAtElement code c address
  BeforeStore : (p q r : ℕ) (removes : List ℕ) (a : IsAtOp code c (Do None action.Put (p ∷ q ∷ r ∷ []) removes)) → frame_word a.w p ≡ suc address
      → IsAtElement code c address

-- Until its next instruction the goroutine is where it was when it read the length, and the slice still has it. It is before an access to
-- that slice, so it has a stake in its region, and nobody stores the first word of a slice.
pub record StillMeasured (code : Code) (z : TableSizes) (words : List ℕ) (c : Record) (m : Measured) : Type 0 where
  pub past : m.steps ≤ steps_of c
  pub before : m.steps ≡ steps_of c → IsAtElement code c m.address
  pub still : m.steps ≡ steps_of c → slice_index words (base z + m.address) ≡ m.elements

-- ---- cells of spread objects

-- whether an action is on one cell of a struct or of a slice
abbrev pub is_on_cell : Action → Bool
is_on_cell (action.Load k) = true
is_on_cell (action.Store k) = true
is_on_cell action.At = true
is_on_cell action.Put = true
is_on_cell act = false

-- the variable points to structs, and these are spread
pub record LeadsToSpread (code : Code) (page_words : ℕ) (fn : CodeFn) (p : ℕ) : Type 0 where
  pub number : ℕ
  pub typed : VariableHasType (erased_fn fn) p (pointer_to number)
  pub struct : Struct
  pub there : slice_get code.structs number ≡ Some struct
  pub spread : page_words < length struct.fields

-- The record is before an access to a struct or slice at this address that is spread and has this cell. The lead page has the number of
-- the cell's page, plus 1, after the words that are before the cells: none of a struct, one of a slice.
pub data IsAtCell (code : Code) (z : TableSizes) (words : List ℕ) (c : Record) (address cell page : ℕ) : Type 0 where
  OfStruct : (to : Option ℕ) (act : Action) (p : ℕ) (others removes : List ℕ) (a : IsAtOp code c (Do to act (p ∷ others) removes))
      → is_on_cell act ≡ true → frame_word a.w p ≡ suc address
      → (s : LeadsToSpread code z.page_words a.fn p) → cell < length s.struct.fields
      → slice_index words (base z + (address + (0 + cell / z.page_words))) ≡ suc page → IsAtCell code z words c address cell page
  OfSlice : (to : Option ℕ) (act : Action) (p : ℕ) (others removes : List ℕ) (a : IsAtOp code c (Do to act (p ∷ others) removes))
      → is_on_cell act ≡ true → frame_word a.w p ≡ suc address
      → (u : «Type») → VariableHasType (erased_fn a.fn) p (slice_of u) → cell < slice_index words (base z + address)
      → z.page_words ≤ slice_index words (base z + address)
      → slice_index words (base z + (address + (1 + cell / z.page_words))) ≡ suc page → IsAtCell code z words c address cell page

-- Until its next instruction the goroutine is where it was when it read the page number, and the lead page still has it. The reason is
-- the same as for lengths.
pub record Finds (code : Code) (z : TableSizes) (words : List ℕ) (c : Record) (l : Located) : Type 0 where
  pub past : l.steps ≤ steps_of c
  pub before : l.steps ≡ steps_of c → IsAtCell code z words c l.address l.cell l.page

-- ---- reserved pages

-- the slot by which a record knows a region
abbrev pub slot_number : TableSizes → Region → ℕ
slot_number z GlobalRegion = z.slots
slot_number z (Numbered p) = p

-- the record is before an instruction that makes an object in the region of this slot
pub record IsMakingIn (code : Code) (z : TableSizes) (c : Record) (slot : ℕ) : Type 0 where
  pub op : CodeOp
  pub a : IsAtOp code c op
  pub by_slot : Region
  pub making : making_region (code_function code a.w.function) (top_names c.frame.holder.environments) a.instr.op ≡ Some by_slot
  pub slotted : slot_number z by_slot ≡ slot

-- ----

pub record Link (code : Code) (z : TableSizes) (words : List ℕ) (c : Record) : Type 0 where
  -- the loop over a chain ends after as many pages as were counted when the last stake ended
  pub owed : c.clock.owed ≡ left_to_free z words c.memory.give
  -- what was loaded before the access to a cell is still so when the access is made
  pub knows : (m : Measured) → c.memory.measured ≡ Some m → StillMeasured code z words c m
  pub finds : (l : Located) → c.memory.located ≡ Some l → Finds code z words c l
  -- pages are reserved for the next object alone, so any other instruction finds none
  pub reserved : 0 < length c.memory.reserved.pages → IsMakingIn code z c c.memory.reserved.slot

-- the links of each record
abbrev pub Links : Code → TableSizes → List ℕ → List Record → Type 0
Links code z words recs = (g : ℕ) (c : Record) → slice_get recs g ≡ Some c → Link code z words c
