-- What the stores of a new object's words keep: the last of them makes the object. Before it the state has no object there, so a
-- goroutine that is stopped in the middle leaves words that no other one can reach.
use Rattle.std.specs.Prelude.{◌≡◌, ◌⊎◌, ℕ, ◌+◌, ◌<◌, false, List, [], ◌∷◌, length, map, replicate, pos, Some, slice_get, slice_set}
use Rattle.rgo_sound.specs.Typed.declared.actions.Action.TheVariants as action
use Rattle.rgo_sound.specs.Typed.declared.programs.Struct.{Struct}
use Rattle.rgo_sound.specs.Code.Code.{Code}
use Rattle.rgo_sound.specs.Code.Erasure.{erased}
use Rattle.rgo_sound.specs.Machine.declared.picks.Pick.TheVariants.{One}
use Rattle.rgo_sound.specs.Memory.Memory.{Object, StructObject, SliceObject, Channel}
use Rattle.rgo_sound.specs.Memory.Values.{zero_of, element_zero}
use Rattle.rgo_sound.specs.Memory.declared.values.Value.TheVariants as value
use Rattle.rgo_sound.specs.RegionMachine.Machine.{Instruct, region_step}
use Rattle.rgo_sound.specs.RegionMachine.Objects.{object_words as words_in, making_region}
use Rattle.rgo_sound.specs.RegionMachine.Owed.{function_at}
use Rattle.rgo_sound.specs.RegionMachine.States.{Holder, RegionState, top_names}
use Rattle.rgo_sound.specs.RegionMachine.declared.regions.Region.{Region}
use Rattle.rgo_sound.specs.Good.{AllGood}
use Rattle.rgo_sound.specs.Tac.Steps.{destination_type}
use Rattle.rgo_core_memory.specs.declared.layout.TableSizes.{TableSizes}
use Rattle.rgo_core_memory.specs.Words.{put_at, cell_at}
use Rattle.rgo_core_memory.specs.Encoding.{content, opening_word}
use Rattle.rgo_core_memory.specs.Records.{Fill, Rec, HasRecord, with_word, with_object_in_page, with_word_apart, with_object_apart}
use Rattle.rgo_core_memory.specs.Parts.{slot_of, RecordMakes, MakesApart, Covers, CoversApart}
use Rattle.rgo_core_memory.specs.Spread.{lead_spot, spread_spot, spread_opening, table_words}
use Rattle.rgo_core_memory.specs.Image.{Where, StateImage}
use Rattle.rgo_core_memory.specs.Accesses.{Before}

-- The object that the goroutine makes next. New objects hold no pointers, so their words do not depend on where objects are.
abbrev pub MakesNext : (code : Code) (s : RegionState) (g : ℕ) (h : Holder) (r : Region) (object : Object) → Type 0
MakesNext code s g h r object =
    ((n : ℕ) × (made : Struct) × (b : Before code s g (action.New n) []) × (slice_get code.structs n ≡ Some made)
    × (object ≡ StructObject (map zero_of made.fields))
    × (making_region (function_at code b.frame) (top_names h.environments) b.instr.op ≡ Some r))
    ⊎ ((n : ℕ) × (b : Before code s g action.Slice (value.Int (pos n) ∷ []))
    × (object ≡ SliceObject (replicate n (element_zero (destination_type (erased code) b.frame b.to))))
    × (making_region (function_at code b.frame) (top_names h.environments) b.instr.op ≡ Some r))
    ⊎ ((n : ℕ) × (b : Before code s g action.Chan (value.Int (pos n) ∷ []))
    × (object ≡ Channel n [] false)
    × (making_region (function_at code b.frame) (top_names h.environments) b.instr.op ≡ Some r))

-- A store before the last. It may be of any word, also of one that was stored before.
abbrev pub WordKeeps : Type 0
WordKeeps = (z : TableSizes) (words : List ℕ) (recs : List Rec) (s : RegionState) (g i : ℕ) (c : Rec) (f : Fill)
    (object : Object) (stored : List ℕ)
    → (places : Where) → StateImage z words recs s places → HasRecord recs g c → RecordMakes z c f object stored → i < words_in object
    → StateImage z (slice_set words (cell_at z f.page (f.fill + i)) (opening_word (content object i))) (slice_set recs g
    (with_word c f object (i ∷ stored))) s places

-- The same of a spread object, in the reserved pages. The numbers of its data pages are stored like other words.
abbrev pub WordKeepsApart : Type 0
WordKeepsApart = (z : TableSizes) (words : List ℕ) (recs : List Rec) (s : RegionState) (g i : ℕ) (c : Rec)
    (object : Object) (stored : List ℕ)
    → (places : Where) → StateImage z words recs s places → HasRecord recs g c → MakesApart z c object stored
    → i < table_words z.page_words object
    → StateImage z (slice_set words (cell_at z (spread_spot z.page_words object c.reserved.pages i).page
    (spread_spot z.page_words object c.reserved.pages i).offset) (spread_opening object c.reserved.pages i))
    (slice_set recs g (with_word_apart c object (i ∷ stored))) s places

-- The last one. The object's place is decided here: word i is at the fill of the own page plus i.
abbrev pub AllocationKeeps : Type 0
AllocationKeeps = (code : Code) (z : TableSizes) (words : List ℕ) (recs : List Rec) (s t : RegionState) (g i : ℕ)
    (h : Holder) (r : Region) (c : Rec) (f : Fill)
    (object : Object) (stored : List ℕ) → AllGood code s → (places : Where) → StateImage z words recs s places
    → slice_get s.holders g ≡ Some h → HasRecord recs g c
    → MakesNext code s g h r object → slot_of z places.slot r ≡ f.slot → RecordMakes z c f object stored
    → i < words_in object → Covers object (i ∷ stored)
    → region_step code z.page_words s (Instruct (One g)) ≡ Some t
    → StateImage z (slice_set words (cell_at z f.page (f.fill + i)) (opening_word (content object i)))
    (slice_set recs g (with_object_in_page c f.slot (f.fill + words_in object))) t
    (record places {
      spot = put_at places.spot (length s.plain.memory.heap)
          (λ i. record { page = f.page; offset = f.fill + i });
      start = put_at places.start (length s.plain.memory.heap) (record { page = f.page; offset = f.fill });
    })

-- the same of a spread object
abbrev pub AllocationKeepsApart : Type 0
AllocationKeepsApart = (code : Code) (z : TableSizes) (words : List ℕ) (recs : List Rec) (s t : RegionState) (g i : ℕ)
    (h : Holder) (r : Region) (c : Rec)
    (object : Object) (stored : List ℕ) → AllGood code s → (places : Where) → StateImage z words recs s places
    → slice_get s.holders g ≡ Some h → HasRecord recs g c
    → MakesNext code s g h r object → slot_of z places.slot r ≡ c.reserved.slot → MakesApart z c object stored
    → i < table_words z.page_words object → CoversApart z object (i ∷ stored)
    → region_step code z.page_words s (Instruct (One g)) ≡ Some t
    → StateImage z (slice_set words (cell_at z (spread_spot z.page_words object c.reserved.pages i).page
    (spread_spot z.page_words object c.reserved.pages i).offset) (spread_opening object c.reserved.pages i))
    (slice_set recs g (with_object_apart c)) t
    (record places {
      spot = put_at places.spot (length s.plain.memory.heap) (spread_spot z.page_words object c.reserved.pages);
      start = put_at places.start (length s.plain.memory.heap) (lead_spot c.reserved.pages 0);
    })
