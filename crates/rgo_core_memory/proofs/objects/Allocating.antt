-- The last opening store of an object's words is the allocation of the region machine. `Making` has the image after it. Here the state
-- after the instruction is shown to be the one of which that is the image: it gives the object the same region and fill.
use Rattle.std.proofs.Common.{◌≡◌, ℕ, ◌+◌, ◌<◌, ◌≤◌, Bool, true, false, List, [], ◌∷◌, ◌++◌, map, length, set, replicate, pos, Option, Some, None, nat_le, if◌then◌else◌, slice_get, slice_set, refl, ap, sym, subst, ◌∙◌, ⊎_elim}
use Rattle.std.proofs.lemmas.Option.{same_Some}
use Rattle.rgo_sound.specs.Typed.declared.actions.Action.{Action}
use Rattle.rgo_sound.specs.Typed.declared.actions.Action.TheVariants as action
use Rattle.rgo_sound.specs.Typed.declared.programs.Struct.{Struct}
use Rattle.rgo_sound.specs.Code.Code.{Code, CodeOp, Do}
use Rattle.rgo_sound.specs.Code.Erasure.{erased}
use Rattle.rgo_sound.specs.Machine.declared.picks.Pick.TheVariants.{One}
use Rattle.rgo_sound.specs.Memory.Making.{made as made_effect, made_struct}
use Rattle.rgo_sound.specs.Memory.Memory.{Memory as PlainMemory, Object, StructObject, SliceObject, Channel}
use Rattle.rgo_sound.specs.Memory.Values.{zero_of, element_zero}
use Rattle.rgo_sound.specs.Memory.declared.values.Value.{Value}
use Rattle.rgo_sound.specs.Memory.declared.values.Value.TheVariants as value
use Rattle.rgo_sound.specs.RegionMachine.Machine.{Instruct, region_step}
use Rattle.rgo_sound.specs.RegionMachine.Objects.{object_words as words_of, making_region, fill_of, with_fill, allotted, placed}
use Rattle.rgo_sound.specs.RegionMachine.Owed.{function_at}
use Rattle.rgo_sound.specs.RegionMachine.States.{Holder, RegionState, top_names}
use Rattle.rgo_sound.specs.RegionMachine.declared.regions.Region.{Region}
use Rattle.rgo_sound.proofs.steps.Acting.{performed}
use Rattle.rgo_sound.proofs.Places.{get_append_last}
use Rattle.rgo_sound.specs.Good.{AllGood}
use Rattle.rgo_sound.specs.Tac.Steps.{destination_type}
use Rattle.rgo_core_memory.specs.declared.layout.TableSizes.{TableSizes}
use Rattle.rgo_core_memory.specs.Words.{put_at, cell_at}
use Rattle.rgo_core_memory.specs.Encoding.{content, opening_word, IsPlain}
use Rattle.rgo_core_memory.specs.Records.{Fill, Rest, Amid, Rec, HasRecord, Within, with_object_in_page}
use Rattle.rgo_core_memory.specs.Ground.{Held, MayUseRegion, ground_of, held_of, made_in_page}
use Rattle.rgo_core_memory.specs.Parts.{slot_of, RecordMakes, Covers}
use Rattle.rgo_core_memory.specs.Image.{StateImage, Where}
use Rattle.rgo_core_memory.specs.Accesses.{Before}
use Rattle.rgo_core_memory.specs.Allocations.{WordKeeps, AllocationKeeps}
use Rattle.rgo_core_memory.proofs.accesses.Accesses.{image_of}
use Rattle.rgo_core_memory.proofs.regions.Attending.{makes_used}
use Rattle.rgo_core_memory.proofs.objects.Making.{object_made}
use Rattle.rgo_core_memory.proofs.regions.Slots.{one_region, uses_live}
use Rattle.rgo_core_memory.proofs.image.Steadies.{steady_of}
use Rattle.rgo_core_memory.proofs.image.Stepped.{Acts, acts, map_get}
use Rattle.rgo_core_memory.proofs.objects.Zeroing.{word_stored}
use Rattle.rgo_core_memory.proofs.objects.Spreads.{whole_of}
use Rattle.rgo_sound.specs.RegionMachine.Objects.{is_spread, spread_out}
use Rattle.std.proofs.Common.{arith}
use Rattle.rgo_core_memory.proofs.objects.Strewing.{word_strewn}
use Rattle.rgo_core_memory.specs.Allocations.{WordKeepsApart}
use Rattle.rgo_core_memory.specs.Allocations.{AllocationKeepsApart}
use Rattle.rgo_core_memory.proofs.objects.MakingApart.{object_made_apart}
use Rattle.rgo_core_memory.specs.Records.{Across, with_object_apart}
use Rattle.rgo_core_memory.specs.Ground.{made_apart}
use Rattle.rgo_core_memory.specs.Parts.{MakesApart, CoversApart}
use Rattle.rgo_core_memory.specs.Spread.{spread_spot, spread_opening, table_words}
use Rattle.rgo_sound.specs.RegionMachine.Objects.{is_too_large, data_pages}
use Rattle.rgo_sound.specs.RegionMachine.Room.{pages_of}
use Rattle.std.proofs.Common.{not, ◌&&◌, nat_lt}
use Rattle.rgo_core_memory.specs.Spread.{lead_spot}

pub word_keeps : WordKeeps
word_keeps z words recs s g i c f object stored places k own makes small = word_stored z words recs
    (ground_of s) places k g c own f object stored makes i small

pub word_keeps_apart : WordKeepsApart
word_keeps_apart z words recs s g i c object stored places k own makes small = word_strewn z words recs
    (ground_of s) places k g c own object stored makes i small

module _ (code : Code) (z : TableSizes) (words : List ℕ) (recs : List Rec) (s t : RegionState) (g i : ℕ) (h : Holder) (r : Region) (c : Rec)
    (f : Fill)
    (object : Object) (stored : List ℕ) (all : AllGood code s) (places : Where) (k : StateImage z words recs s places)
    (hold : slice_get s.holders g ≡ Some h) (own : HasRecord recs g c)
    (slotted : slot_of z places.slot r ≡ f.slot) (makes : RecordMakes z c f object stored) (small : i < words_of object) (covers : Covers object
    (i ∷ stored))
    (e : region_step code z.page_words s (Instruct (One g)) ≡ Some t) where
  within : Within f c.fills
  within = ⊎_elim
      (λ (m : c.make ≡ Amid f object stored). (k.own.amids g c f object stored own m).0)
      (λ (m : (c.make ≡ Rest) × (stored ≡ []) × Within f c.fills × (f.fill + words_of object ≤ z.page_words) × ((i : ℕ) (v : Value)
      → content object i ≡ Some v → IsPlain v)). m.2)
      makes

  enough : f.fill + words_of object ≤ z.page_words
  enough = ⊎_elim
      (λ (m : c.make ≡ Amid f object stored). (k.own.amids g c f object stored own m).1.fits)
      (λ (m : (c.make ≡ Rest) × (stored ≡ []) × Within f c.fills × (f.fill + words_of object ≤ z.page_words) × ((i : ℕ) (v : Value)
      → content object i ≡ Some v → IsPlain v)). m.3)
      makes

  abbrev m : PlainMemory
  m = record (s.plain.memory) { heap = s.plain.memory.heap ++ object ∷ [] }

  module _ (a : Action) (values : List Value) (b : Before code s g a values)
      (region : making_region (function_at code b.frame) (top_names h.environments) b.instr.op ≡ Some r)
      (does : performed code.structs a (destination_type (erased code) b.frame b.to) values s.plain.memory ≡ Some (made_effect s.plain.memory object)) where
    used : MayUseRegion (held_of h) r
    used = makes_used code s g h r all hold (b.frame, b.callers, b.instr, b.at, b.cur, region)

    filled : fill_of h.fills r ≡ Some f.fill
    filled =
        let q = k.filled.fills g f (c, own, within) in
        let there = map_get held_of s.holders g h hold in
        let same : q.0 ≡ held_of h = same_Some q.0 (held_of h) (sym q.2 ∙ there) in
        let steady = steady_of code s all in
        let one : q.1 ≡ r = one_region z words recs (ground_of s) places k q.1 r (uses_live z words recs
        (ground_of s) places k steady g q.0 q.1 q.2 q.3)
        (uses_live z words recs (ground_of s) places k steady g (held_of h) r there used) (q.4 ∙ sym slotted) in
        subst (λ (y : Held). fill_of y.fills r ≡ Some f.fill) same (subst (λ (y : Region). fill_of q.0.fills y ≡ Some f.fill) one q.5)

    done : Acts code z.page_words s g b.frame (Do b.to a b.from b.removes) m t
    done = acts code z.page_words s t g a values m (value.Object (length s.plain.memory.heap)) e b does

    same_holder : done.h ≡ h
    same_holder = same_Some done.h h (sym done.there ∙ hold)

    whole : is_spread z.page_words object ≡ false
    whole = whole_of z.page_words object (let w = enough in omega (arith, w))

    given : done.given ≡ (record h { fills = with_fill h.fills r (f.fill + words_of object) }, r ∷ [])
    given = go (nat_le (f.fill + words_of object) z.page_words)
        (sym (ap (λ (y : Holder). allotted z.page_words y (making_region (function_at code b.frame) (top_names y.environments)
        (Do b.to a b.from b.removes)) (slice_get m.heap (length s.plain.memory.heap))) same_holder
        ∙ ap (λ (op : CodeOp). allotted z.page_words h (making_region (function_at code b.frame) (top_names h.environments) op) (slice_get m.heap
        (length s.plain.memory.heap))) (sym b.is)
        ∙ ap (λ (y : Option Region). allotted z.page_words h y (slice_get m.heap (length s.plain.memory.heap))) region
        ∙ ap (allotted z.page_words h (Some r)) (get_append_last s.plain.memory.heap object (length s.plain.memory.heap) refl)
        ∙ ap (λ b. if b then spread_out z.page_words h r object else placed z.page_words h r object (fill_of h.fills r)) whole
        ∙ ap (placed z.page_words h r object) filled) ∙ done.allots)
      where
        go : (b : Bool) → (if b then Some (record h { fills = with_fill h.fills r (f.fill + words_of object) }, r ∷ []) else None) ≡ Some done.given
            → ◌≡◌ {A = Holder × List Region} done.given (record h { fills = with_fill h.fills r (f.fill + words_of object) }, r ∷ [])
        go true q = sym (same_Some _ done.given q)
        go false q = cc

    is : ground_of t ≡ made_in_page (ground_of s) g (held_of h) r object (f.fill + words_of object)
    is = done.ground ∙ λ i. record {
      heap = s.plain.memory.heap ++ object ∷ [];
      variables = s.plain.memory.variables;
      owners = ap (λ (y : Holder × List Region). s.owners ++ y.1) given i;
      regions = s.regions;
      global_pages = s.global_pages;
      held = ap (λ (y : Holder × List Region). slice_set (map held_of s.holders) g (held_of y.0)) given i;
    }

    allocates : StateImage z (set words (cell_at z f.page (f.fill + i)) (opening_word (content object i))) (slice_set recs g (with_object_in_page c f.slot
        (f.fill + words_of object))) t
        (record places {
          spot = put_at places.spot (length s.plain.memory.heap) (λ i. record { page = f.page; offset = f.fill + i });
          start = put_at places.start (length s.plain.memory.heap) (record { page = f.page; offset = f.fill });
        })
    allocates = image_of is (object_made z words recs (ground_of s) places k (steady_of code s all) g c own f object stored makes i small covers
        (held_of h) (map_get held_of s.holders g h hold) r used slotted)

-- ---- a spread object

module _ (code : Code) (z : TableSizes) (words : List ℕ) (recs : List Rec) (s t : RegionState) (g i : ℕ) (h : Holder)
    (r : Region) (c : Rec) (object : Object) (stored : List ℕ) (all : AllGood code s) (places : Where)
    (k : StateImage z words recs s places) (hold : slice_get s.holders g ≡ Some h) (own : HasRecord recs g c)
    (slotted : slot_of z places.slot r ≡ c.reserved.slot) (makes : MakesApart z c object stored)
    (small : i < table_words z.page_words object) (covers : CoversApart z object (i ∷ stored))
    (e : region_step code z.page_words s (Instruct (One g)) ≡ Some t) where
  is_apart : is_spread z.page_words object ≡ true
  is_apart = ⊎_elim
      (λ (m : c.make ≡ Across object stored). (k.own.apart.strewn g c object stored own m).spread)
      (λ (m : (c.make ≡ Rest) × (stored ≡ []) × (is_spread z.page_words object ≡ true)
      × (is_too_large z.page_words object ≡ false) × (length c.reserved.pages ≡ pages_of z.page_words object)
      × ((i : ℕ) (v : Value) → content object i ≡ Some v → IsPlain v)). m.2)
      makes

  abbrev m2 : PlainMemory
  m2 = record (s.plain.memory) { heap = s.plain.memory.heap ++ object ∷ [] }

  module _ (a : Action) (values : List Value) (b : Before code s g a values)
      (region : making_region (function_at code b.frame) (top_names h.environments) b.instr.op ≡ Some r)
      (does : performed code.structs a (destination_type (erased code) b.frame b.to) values s.plain.memory ≡ Some
      (made_effect s.plain.memory object)) where
    used_apart : MayUseRegion (held_of h) r
    used_apart = makes_used code s g h r all hold (b.frame, b.callers, b.instr, b.at, b.cur, region)

    done_apart : Acts code z.page_words s g b.frame (Do b.to a b.from b.removes) m2 t
    done_apart = acts code z.page_words s t g a values m2 (value.Object (length s.plain.memory.heap)) e b does

    given_apart : done_apart.given ≡ (record h { reserved = 0 }, r ∷ [])
    given_apart = go (not (is_too_large z.page_words object) && nat_lt (data_pages z.page_words object) h.reserved)
        (sym (ap (λ (y : Holder). allotted z.page_words y (making_region (function_at code b.frame) (top_names y.environments)
        (Do b.to a b.from b.removes)) (slice_get m2.heap (length s.plain.memory.heap)))
        (same_Some done_apart.h h (sym done_apart.there ∙ hold))
        ∙ ap (λ (op : CodeOp). allotted z.page_words h (making_region (function_at code b.frame) (top_names h.environments) op)
        (slice_get m2.heap (length s.plain.memory.heap))) (sym b.is)
        ∙ ap (λ (y : Option Region). allotted z.page_words h y (slice_get m2.heap (length s.plain.memory.heap))) region
        ∙ ap (allotted z.page_words h (Some r)) (get_append_last s.plain.memory.heap object (length s.plain.memory.heap) refl)
        ∙ ap (λ b. if b then spread_out z.page_words h r object else placed z.page_words h r object (fill_of h.fills r))
        is_apart) ∙ done_apart.allots)
      where
        go : (b : Bool) → (if b then Some (record h { reserved = 0 }, r ∷ []) else None) ≡ Some done_apart.given
            → ◌≡◌ {A = Holder × List Region} done_apart.given (record h { reserved = 0 }, r ∷ [])
        go true q = sym (same_Some _ done_apart.given q)
        go false q = cc

    is_made : ground_of t ≡ made_apart (ground_of s) g (held_of h) r object
    is_made = done_apart.ground ∙ λ i. record {
      heap = s.plain.memory.heap ++ object ∷ [];
      variables = s.plain.memory.variables;
      owners = ap (λ (y : Holder × List Region). s.owners ++ y.1) given_apart i;
      regions = s.regions;
      global_pages = s.global_pages;
      held = ap (λ (y : Holder × List Region). slice_set (map held_of s.holders) g (held_of y.0)) given_apart i;
    }

    allocates_apart : StateImage z (set words (cell_at z (spread_spot z.page_words object c.reserved.pages i).page
        (spread_spot z.page_words object c.reserved.pages i).offset) (spread_opening object c.reserved.pages i))
        (slice_set recs g (with_object_apart c)) t
        (record places {
          spot = put_at places.spot (length s.plain.memory.heap) (spread_spot z.page_words object c.reserved.pages);
          start = put_at places.start (length s.plain.memory.heap) (lead_spot c.reserved.pages 0);
        })
    allocates_apart = image_of is_made (object_made_apart z words recs (ground_of s) places k (steady_of code s all) g c own
        object stored makes i small covers (held_of h) (map_get held_of s.holders g h hold) r used_apart slotted)

pub allocation_keeps_apart : AllocationKeepsApart
allocation_keeps_apart code z words recs s t g i h r c object stored all places k hold own next slotted makes small covers e =
    ⊎_elim
    (λ (u : (n : ℕ) × (made : Struct) × (b : Before code s g (action.New n) []) × (slice_get code.structs n ≡ Some made)
    × (object ≡ StructObject (map zero_of made.fields)) × (making_region (function_at code b.frame) (top_names h.environments) b.instr.op ≡ Some r)).
    allocates_apart code z words recs s t g i h r c object stored all places k hold own slotted makes small covers e
    (action.New u.0) [] u.2 u.5
    (ap (λ (y : Option Struct). Some (made_struct y s.plain.memory)) u.3 ∙ ap (λ (y : Object). Some (made_effect s.plain.memory y)) (sym u.4)))
    (λ v. ⊎_elim
    (λ (u : (n : ℕ) × (b : Before code s g action.Slice (value.Int (pos n) ∷ []))
    × (object ≡ SliceObject (replicate n (element_zero (destination_type (erased code) b.frame b.to))))
    × (making_region (function_at code b.frame) (top_names h.environments) b.instr.op ≡ Some r)).
    allocates_apart code z words recs s t g i h r c object stored all places k hold own slotted makes small covers e
    action.Slice (value.Int (pos u.0) ∷ []) u.1 u.3
    (ap (λ (y : Object). Some (made_effect s.plain.memory y)) (sym u.2)))
    (λ (u : (n : ℕ) × (b : Before code s g action.Chan (value.Int (pos n) ∷ []))
    × (object ≡ Channel n [] false) × (making_region (function_at code b.frame) (top_names h.environments) b.instr.op ≡ Some r)).
    allocates_apart code z words recs s t g i h r c object stored all places k hold own slotted makes small covers e
    action.Chan (value.Int (pos u.0) ∷ []) u.1 u.3
    (ap (λ (y : Object). Some (made_effect s.plain.memory y)) (sym u.2)))
    v)
    next

pub allocation_keeps : AllocationKeeps
allocation_keeps code z words recs s t g i h r c f object stored all places k hold own next slotted makes small covers e = ⊎_elim
    (λ (u : (n : ℕ) × (made : Struct) × (b : Before code s g (action.New n) []) × (slice_get code.structs n ≡ Some made)
    × (object ≡ StructObject (map zero_of made.fields)) × (making_region (function_at code b.frame) (top_names h.environments) b.instr.op ≡ Some r)).
    allocates code z words recs s t g i h r c f object stored all places k hold own slotted makes small covers e (action.New u.0) [] u.2 u.5
    (ap (λ (y : Option Struct). Some (made_struct y s.plain.memory)) u.3 ∙ ap (λ (y : Object). Some (made_effect s.plain.memory y)) (sym u.4)))
    (λ v. ⊎_elim
    (λ (u : (n : ℕ) × (b : Before code s g action.Slice (value.Int (pos n) ∷ []))
    × (object ≡ SliceObject (replicate n (element_zero (destination_type (erased code) b.frame b.to))))
    × (making_region (function_at code b.frame) (top_names h.environments) b.instr.op ≡ Some r)).
    allocates code z words recs s t g i h r c f object stored all places k hold own slotted makes small covers e action.Slice (value.Int
    (pos u.0) ∷ []) u.1 u.3
    (ap (λ (y : Object). Some (made_effect s.plain.memory y)) (sym u.2)))
    (λ (u : (n : ℕ) × (b : Before code s g action.Chan (value.Int (pos n) ∷ []))
    × (object ≡ Channel n [] false) × (making_region (function_at code b.frame) (top_names h.environments) b.instr.op ≡ Some r)).
    allocates code z words recs s t g i h r c f object stored all places k hold own slotted makes small covers e action.Chan (value.Int
    (pos u.0) ∷ []) u.1 u.3
    (ap (λ (y : Object). Some (made_effect s.plain.memory y)) (sym u.2)))
    v)
    next
