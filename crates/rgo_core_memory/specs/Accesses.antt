-- A goroutine that is about to perform an action, and what loads and stores of cells do. These laws name the object and the number of
-- the cell. Those of `Laws.antt` derive both from checked code.
use Rattle.std.specs.Prelude.{◌≡◌, ℕ, suc, ◌<◌, List, [], ◌∷◌, length, pos, Option, Some, slice_get, slice_set, slice_index}
use Rattle.rgo_sound.specs.Typed.declared.actions.Action.{Action}
use Rattle.rgo_sound.specs.Typed.declared.actions.Action.TheVariants as action
use Rattle.rgo_sound.specs.Code.Code.{Code, CodeInstr, Do}
use Rattle.rgo_sound.specs.Machine.declared.picks.Pick.TheVariants.{One}
use Rattle.rgo_sound.specs.Memory.Memory.{StructObject, SliceObject}
use Rattle.rgo_sound.specs.Memory.declared.values.Value.{Value}
use Rattle.rgo_sound.specs.Memory.declared.values.Value.TheVariants as value
use Rattle.rgo_sound.specs.RegionMachine.Machine.{Instruct, region_step}
use Rattle.rgo_sound.specs.RegionMachine.Owed.{current}
use Rattle.rgo_sound.specs.RegionMachine.States.{RegionState}
use Rattle.rgo_sound.specs.Tac.Frames.{TacFrame, operand_values}
use Rattle.rgo_core_memory.specs.declared.layout.TableSizes.{TableSizes}
use Rattle.rgo_core_memory.specs.Words.{variable_at}
use Rattle.rgo_core_memory.specs.Records.{Rec}
use Rattle.rgo_core_memory.specs.Image.{Where, StateImage, word_at, word_of_value}

-- Goroutine g performs this action on these operands next. Its record shows this. For loads and stores it stays so until the
-- goroutine's own next access.
pub record Before (code : Code) (s : RegionState) (g : ℕ) (action : Action) (values : List Value) : Type 0 where
  pub frame : TacFrame
  pub callers : List TacFrame
  pub at : slice_get s.plain.goroutines g ≡ Some (frame ∷ callers)
  pub instr : CodeInstr
  pub cur : current code frame ≡ Some instr
  pub to : Option ℕ
  pub from : List ℕ
  pub removes : List ℕ
  pub is : instr.op ≡ Do to action from removes
  pub operands : operand_values frame from ≡ values

-- ---- Stores: the word of the cell that the instruction writes becomes the value's, in the image of the state after it.

abbrev pub StoreKeeps : Type 0
StoreKeeps = (code : Code) (z : TableSizes) (words : List ℕ) (recs : List Rec) (s t : RegionState) (g o n : ℕ)
    (v : Value) (cells : List Value)
    → (places : Where) → StateImage z words recs s places → region_step code z.page_words s (Instruct (One g)) ≡ Some t
    → Before code s g (action.Store n) (value.Object o ∷ v ∷ [])
    → slice_get s.plain.memory.heap o ≡ Some (StructObject cells)
    → n < length cells → StateImage z (slice_set words (word_at z places o n) (word_of_value z places v)) recs t places

abbrev pub PutKeeps : Type 0
PutKeeps = (code : Code) (z : TableSizes) (words : List ℕ) (recs : List Rec) (s t : RegionState) (g o n : ℕ)
    (v : Value) (cells : List Value)
    → (places : Where) → StateImage z words recs s places → region_step code z.page_words s (Instruct (One g)) ≡ Some t
    → Before code s g action.Put (value.Object o ∷ value.Int (pos n) ∷ v ∷ [])
    → slice_get s.plain.memory.heap o ≡ Some (SliceObject cells)
    → n < length cells → StateImage z (slice_set words (word_at z places o (suc n)) (word_of_value z places v)) recs t places

abbrev pub SetKeeps : Type 0
SetKeeps = (code : Code) (z : TableSizes) (words : List ℕ) (recs : List Rec) (s t : RegionState) (g n : ℕ) (v : Value)
    → (places : Where) → StateImage z words recs s places → region_step code z.page_words s (Instruct (One g)) ≡ Some t
    → Before code s g (action.Set n) (v ∷ []) → n < length s.plain.memory.variables
    → StateImage z (slice_set words (variable_at z n) (word_of_value z places v)) recs t places

-- ---- Loads: the word is that of the value that the instruction reads. The words stay, but the state steps.

abbrev pub LoadReads : Type 0
LoadReads = (code : Code) (z : TableSizes) (words : List ℕ) (recs : List Rec) (s t : RegionState) (g o n : ℕ)
    (v : Value) (cells : List Value)
    → (places : Where) → StateImage z words recs s places → region_step code z.page_words s (Instruct (One g)) ≡ Some t
    → Before code s g (action.Load n) (value.Object o ∷ []) → slice_get s.plain.memory.heap o ≡ Some (StructObject cells)
    → slice_get cells n ≡ Some v → (slice_index words (word_at z places o n) ≡ word_of_value z places v)
    × StateImage z words recs t places

abbrev pub AtReads : Type 0
AtReads = (code : Code) (z : TableSizes) (words : List ℕ) (recs : List Rec) (s t : RegionState) (g o n : ℕ) (v : Value)
    (cells : List Value)
    → (places : Where) → StateImage z words recs s places → region_step code z.page_words s (Instruct (One g)) ≡ Some t
    → Before code s g action.At (value.Object o ∷ value.Int (pos n) ∷ [])
    → slice_get s.plain.memory.heap o ≡ Some (SliceObject cells)
    → slice_get cells n ≡ Some v → (slice_index words (word_at z places o (suc n)) ≡ word_of_value z places v)
    × StateImage z words recs t places

abbrev pub LenReads : Type 0
LenReads = (code : Code) (z : TableSizes) (words : List ℕ) (recs : List Rec) (s t : RegionState) (g o : ℕ)
    (cells : List Value)
    → (places : Where) → StateImage z words recs s places → region_step code z.page_words s (Instruct (One g)) ≡ Some t
    → Before code s g action.Len (value.Object o ∷ []) → slice_get s.plain.memory.heap o ≡ Some (SliceObject cells)
    → (slice_index words (word_at z places o 0) ≡ word_of_value z places (value.Int (pos (length cells))))
    × StateImage z words recs t places

abbrev pub GetReads : Type 0
GetReads = (code : Code) (z : TableSizes) (words : List ℕ) (recs : List Rec) (s t : RegionState) (g n : ℕ) (v : Value)
    → (places : Where) → StateImage z words recs s places → region_step code z.page_words s (Instruct (One g)) ≡ Some t
    → Before code s g (action.Get n) [] → slice_get s.plain.memory.variables n ≡ Some v
    → (slice_index words (variable_at z n) ≡ word_of_value z places v) × StateImage z words recs t places
