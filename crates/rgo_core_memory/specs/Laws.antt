-- Loads and stores of fields, elements, lengths and package variables. The code is checked, so by its types the object exists and has
-- the field. Only the index of an element is left to be compared with the length when the code runs.
use Rattle.std.specs.Prelude.{◌≡◌, ℕ, suc, ◌<◌, pos, Ok, List, [], ◌∷◌, Some, slice_get, slice_set, slice_index}
use Rattle.rgo_sound.specs.Typed.declared.actions.Action.TheVariants as action
use Rattle.rgo_sound.specs.Code.Checked.{IsChecked}
use Rattle.rgo_sound.specs.Code.Code.{Code}
use Rattle.rgo_sound.specs.Machine.declared.picks.Pick.TheVariants.{One}
use Rattle.rgo_sound.specs.Memory.Elements.{element_in, length_in}
use Rattle.rgo_sound.specs.Memory.Fields.{field_value, or_nil}
use Rattle.rgo_sound.specs.Memory.declared.values.Value.{Value}
use Rattle.rgo_sound.specs.Memory.declared.values.Value.TheVariants as value
use Rattle.rgo_sound.specs.RegionMachine.Machine.{Instruct, region_step}
use Rattle.rgo_sound.specs.RegionMachine.States.{RegionState}
use Rattle.rgo_sound.specs.Good.{AllGood}
use Rattle.rgo_core_memory.specs.Accesses.{Before}
use Rattle.rgo_core_memory.specs.declared.layout.TableSizes.{TableSizes}
use Rattle.rgo_core_memory.specs.Words.{variable_at}
use Rattle.rgo_core_memory.specs.Records.{Rec}
use Rattle.rgo_core_memory.specs.Image.{Where, StateImage, word_at, word_of_value}

abbrev pub MemoryLoadLaw : Type 0
MemoryLoadLaw = (code : Code) (z : TableSizes) (words : List ℕ) (recs : List Rec) (s t : RegionState) (g o n : ℕ)
    (places : Where) → IsChecked code → AllGood code s
    → StateImage z words recs s places → region_step code z.page_words s (Instruct (One g)) ≡ Some t
    → Before code s g (action.Load n) (value.Object o ∷ [])
    → (slice_index words (word_at z places o n) ≡ word_of_value z places (field_value (slice_get s.plain.memory.heap o) n))
    × StateImage z words recs t places

abbrev pub LenLaw : Type 0
LenLaw = (code : Code) (z : TableSizes) (words : List ℕ) (recs : List Rec) (s t : RegionState) (g o : ℕ)
    (places : Where) → IsChecked code → AllGood code s
    → StateImage z words recs s places → region_step code z.page_words s (Instruct (One g)) ≡ Some t
    → Before code s g action.Len (value.Object o ∷ [])
    → (slice_index words (word_at z places o 0) ≡ word_of_value z places (length_in (slice_get s.plain.memory.heap o)))
    × StateImage z words recs t places

abbrev pub GetLaw : Type 0
GetLaw = (code : Code) (z : TableSizes) (words : List ℕ) (recs : List Rec) (s t : RegionState) (g n : ℕ)
    (places : Where) → IsChecked code → AllGood code s
    → StateImage z words recs s places → region_step code z.page_words s (Instruct (One g)) ≡ Some t
    → Before code s g (action.Get n) []
    → (slice_index words (variable_at z n) ≡ word_of_value z places (or_nil (slice_get s.plain.memory.variables n)))
    × StateImage z words recs t places

abbrev pub StoreLaw : Type 0
StoreLaw = (code : Code) (z : TableSizes) (words : List ℕ) (recs : List Rec) (s t : RegionState) (g o n : ℕ)
    (v : Value) (places : Where) → IsChecked code → AllGood code s
    → StateImage z words recs s places → region_step code z.page_words s (Instruct (One g)) ≡ Some t
    → Before code s g (action.Store n) (value.Object o ∷ v ∷ [])
    → StateImage z (slice_set words (word_at z places o n) (word_of_value z places v)) recs t places

abbrev pub SetLaw : Type 0
SetLaw = (code : Code) (z : TableSizes) (words : List ℕ) (recs : List Rec) (s t : RegionState) (g n : ℕ) (v : Value)
    (places : Where) → IsChecked code → AllGood code s
    → StateImage z words recs s places → region_step code z.page_words s (Instruct (One g)) ≡ Some t
    → Before code s g (action.Set n) (v ∷ [])
    → StateImage z (slice_set words (variable_at z n) (word_of_value z places v)) recs t places

-- An element of a slice, within its length. The length may have been loaded earlier: it never changes.
abbrev pub AtLaw : Type 0
AtLaw = (code : Code) (z : TableSizes) (words : List ℕ) (recs : List Rec) (s t : RegionState) (g o n m : ℕ)
    (places : Where) → IsChecked code → AllGood code s
    → StateImage z words recs s places → region_step code z.page_words s (Instruct (One g)) ≡ Some t
    → Before code s g action.At (value.Object o ∷ value.Int (pos n) ∷ [])
    → length_in (slice_get s.plain.memory.heap o) ≡ value.Int (pos m) → n < m
    → (v : Value) × (element_in (slice_get s.plain.memory.heap o) (pos n) ≡ Ok v)
    × (slice_index words (word_at z places o (suc n)) ≡ word_of_value z places v)
    × StateImage z words recs t places

abbrev pub PutLaw : Type 0
PutLaw = (code : Code) (z : TableSizes) (words : List ℕ) (recs : List Rec) (s t : RegionState) (g o n m : ℕ)
    (v : Value) (places : Where) → IsChecked code → AllGood code s
    → StateImage z words recs s places → region_step code z.page_words s (Instruct (One g)) ≡ Some t
    → Before code s g action.Put (value.Object o ∷ value.Int (pos n) ∷ v ∷ [])
    → length_in (slice_get s.plain.memory.heap o) ≡ value.Int (pos m) → n < m
    → StateImage z (slice_set words (word_at z places o (suc n)) (word_of_value z places v)) recs t places
