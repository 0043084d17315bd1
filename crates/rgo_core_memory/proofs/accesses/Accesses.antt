-- Loads and stores are those of the region machine. What memory shows of the state after the instruction is that of a store to one
-- object (`Stepped`), and the word is that of its cell (`Storing`). The region is live, since the instruction may touch the object.
use Rattle.std.proofs.Common.{◌≡◌, ℕ, zero, suc, ◌+◌, ◌<◌, Bool, true, List, [], ◌∷◌, length, max, pos, Option, Some, None, Ok, nat_lt, if◌then◌else◌, slice_get, slice_set, refl, ap, sym, subst, ◌∙◌, arith, true≢false}
use Rattle.rgo_sound.specs.Typed.declared.actions.Action.{Action}
use Rattle.rgo_sound.specs.Typed.declared.actions.Action.TheVariants as action
use Rattle.rgo_sound.specs.Code.Code.{Code, Do}
use Rattle.rgo_sound.specs.Memory.Effects.{Outcome, Does, Traps, answered, in_memory, to_object}
use Rattle.rgo_sound.specs.Memory.Elements.{element_in, length_in, or_out_of_range, put_in, cell_put}
use Rattle.rgo_sound.specs.Memory.Fields.{store_outcome as field_stored, field_value, or_nil}
use Rattle.rgo_sound.specs.Memory.Memory.{Memory as PlainMemory, Object, StructObject, SliceObject, with_object}
use Rattle.std.proofs.lemmas.Bool.Decides.{nat_tests}
use Rattle.rgo_sound.specs.Memory.declared.traps.Trap.TheVariants.{IndexRange}
use Rattle.rgo_sound.specs.Memory.declared.values.Value.{Value}
use Rattle.rgo_sound.specs.Memory.declared.values.Value.TheVariants as value
use Rattle.rgo_sound.specs.RegionMachine.Objects.{may_touch, owner_live, touched, touched_by}
use Rattle.rgo_sound.specs.RegionMachine.States.{RegionState}
use Rattle.rgo_sound.specs.RegionMachine.declared.regions.Region.{Region}
use Rattle.rgo_sound.proofs.Places.{get_some, length_set}
use Rattle.rgo_core_memory.specs.Accesses.{Before, StoreKeeps, PutKeeps, SetKeeps, LoadReads, AtReads, LenReads, GetReads}
use Rattle.rgo_core_memory.specs.Encoding.{content, ChangesWord}
use Rattle.rgo_core_memory.specs.declared.layout.TableSizes.{TableSizes}
use Rattle.rgo_core_memory.specs.Records.{Rec}
use Rattle.rgo_core_memory.specs.Ground.{Ground, IsLiveObject, ground_of, stored, assigned}
use Rattle.rgo_core_memory.specs.Image.{MemoryImage, Where}
use Rattle.rgo_core_memory.proofs.Rows.{set_here, set_else}
use Rattle.rgo_core_memory.proofs.image.Stepped.{Acts, acts, only_memory}
use Rattle.rgo_core_memory.proofs.accesses.Storing.{loads, gets, stores, assigns}

-- the image of what is the same
pub image_of : {z : TableSizes} {words : List ℕ} {recs : List Rec} {x y : Ground} {places : Where} → y ≡ x → MemoryImage z words recs x places
    → MemoryImage z words recs y places
image_of {z} {words} {recs} {x} {y} {places} e k = subst (λ (u : Ground). MemoryImage z words recs u places) (sym e) k

-- an object that may be touched is live
stands_of : (s : RegionState) (o : ℕ) (object : Object) → slice_get s.plain.memory.heap o ≡ Some object → may_touch s (Some o) ≡ true
    → (r : Region) × IsLiveObject s.plain.memory.heap s.owners s.regions o object r
stands_of s o object there live = go (slice_get s.owners o) refl live
  where
    go : (owner : Option Region) → slice_get s.owners o ≡ owner → owner_live s owner ≡ true
        → (r : Region) × IsLiveObject s.plain.memory.heap s.owners s.regions o object r
    go None e l = absurd (true≢false (sym l))
    go (Some r) e l = (r, record { there = there; owner = e; live = l })

touched_live : (code : Code) (s : RegionState) (g o : ℕ) (a : Action) (values : List Value) (b : Before code s g a values)
    → may_touch s (touched b.frame (Do b.to a b.from b.removes)) ≡ true → touched_by a values ≡ Some o → may_touch s (Some o) ≡ true
touched_live code s g o a values b live is = sym (ap (may_touch s) (ap (touched_by a) b.operands ∙ is)) ∙ live

-- ---- what a store leaves of an object

field_changes : (cells : List Value) (n : ℕ) (v : Value) → n < length cells → ChangesWord (StructObject cells) n v (StructObject (slice_set cells n v))
field_changes cells n v l = let u = get_some cells n l in record {
  here = set_here cells n v u.0 u.1;
  there = λ j ne. set_else cells n j v ne;
}

element_changes : (cells : List Value) (n : ℕ) (v : Value) → n < length cells
    → ChangesWord (SliceObject cells) (suc n) v (SliceObject (slice_set cells n v))
element_changes cells n v l = let u = get_some cells n l in record {
  here = set_here cells n v u.0 u.1;
  there = others;
}
  where
    others : (j : ℕ) → (j ≡ suc n → ⊥) → content (SliceObject (slice_set cells n v)) j ≡ content (SliceObject cells) j
    others zero ne = ap (λ (m : ℕ). Some (value.Int (pos m))) (length_set cells n v)
    others (suc j) ne = set_else cells n j v (λ e. ne (ap suc e))

-- ---- the laws

pub store_keeps : StoreKeeps
store_keeps code z words recs s t g o n v cells places k e b there l =
    image_of is
    (stores z words recs (ground_of s) places k o n (StructObject cells) object st.0 v st.1 (let h = l in omega arith)
    (ap (λ (m : ℕ). max 1 m) (length_set cells n v), length_set cells n v) (field_changes cells n v l))
  where
    object : Object
    object = StructObject (slice_set cells n v)

    m : PlainMemory
    m = with_object s.plain.memory o object

    a : Acts code z.page_words s g b.frame (Do b.to (action.Store n) b.from b.removes) m t
    a = acts code z.page_words s t g (action.Store n) (value.Object o ∷ v ∷ []) m value.Nil e b
        (ap (λ (y : Option Object). Some (to_object s.plain.memory o (field_stored n v) y)) there)

    st : (r : Region) × IsLiveObject s.plain.memory.heap s.owners s.regions o (StructObject cells) r
    st = stands_of s o (StructObject cells) there (touched_live code s g o (action.Store n) (value.Object o ∷ v ∷ []) b a.live refl)

    is : ground_of t ≡ stored (ground_of s) o object
    is = only_memory code z.page_words s g b.frame (Do b.to (action.Store n) b.from b.removes) m t a (length_set s.plain.memory.heap o object)

pub put_keeps : PutKeeps
put_keeps code z words recs s t g o n v cells places k e b there l =
    image_of is
    (stores z words recs (ground_of s) places k o (suc n) (SliceObject cells) object st.0 v st.1 (omega arith)
    (ap (λ (m : ℕ). 1 + m) (length_set cells n v), length_set cells n v) (element_changes cells n v l))
  where
    object : Object
    object = SliceObject (slice_set cells n v)

    m : PlainMemory
    m = with_object s.plain.memory o object

    does : cell_put cells (pos n) v ≡ Does object value.Nil
    does = small (nat_lt n (length cells)) (grind (arith, nat_tests))
      where
        small : (x : Bool) → x ≡ true → (if x then Does (SliceObject (slice_set cells n v)) value.Nil else Traps IndexRange) ≡ Does object value.Nil
        small x q = rw q refl

    a : Acts code z.page_words s g b.frame (Do b.to action.Put b.from b.removes) m t
    a = acts code z.page_words s t g action.Put (value.Object o ∷ value.Int (pos n) ∷ v ∷ []) m value.Nil e b
        (ap (λ (y : Option Object). Some (to_object s.plain.memory o (put_in (pos n) v) y)) there
        ∙ ap (λ (y : Outcome Object). Some (in_memory s.plain.memory o y)) does)

    st : (r : Region) × IsLiveObject s.plain.memory.heap s.owners s.regions o (SliceObject cells) r
    st = stands_of s o (SliceObject cells) there (touched_live code s g o action.Put (value.Object o ∷ value.Int (pos n) ∷ v ∷ []) b a.live refl)

    is : ground_of t ≡ stored (ground_of s) o object
    is = only_memory code z.page_words s g b.frame (Do b.to action.Put b.from b.removes) m t a (length_set s.plain.memory.heap o object)

pub set_keeps : SetKeeps
set_keeps code z words recs s t g n v places k e b l =
    let u = get_some s.plain.memory.variables n l in
    image_of is
    (assigns z words recs (ground_of s) places k n u.0 v u.1)
  where
    m : PlainMemory
    m = record (s.plain.memory) { variables = slice_set s.plain.memory.variables n v }

    a : Acts code z.page_words s g b.frame (Do b.to (action.Set n) b.from b.removes) m t
    a = acts code z.page_words s t g (action.Set n) (v ∷ []) m value.Nil e b refl

    is : ground_of t ≡ assigned (ground_of s) n v
    is = only_memory code z.page_words s g b.frame (Do b.to (action.Set n) b.from b.removes) m t a refl

-- an instruction that only reads
reads : (code : Code) (z : TableSizes) (s t : RegionState) (g : ℕ) (a : Action) (values : List Value) (b : Before code s g a values)
    → Acts code z.page_words s g b.frame (Do b.to a b.from b.removes) s.plain.memory t → ground_of t ≡ ground_of s
reads code z s t g a values b x = only_memory code z.page_words s g b.frame (Do b.to a b.from b.removes) s.plain.memory t x refl

pub load_reads : LoadReads
load_reads code z words recs s t g o n v cells places k e b there cell =
    let a = acts code z.page_words s t g (action.Load n) (value.Object o ∷ []) s.plain.memory v e b
    (ap (λ (y : Option Object). Some (answered s.plain.memory (Ok (field_value y n)))) there
    ∙ ap (λ (y : Option Value). Some (answered s.plain.memory (Ok (or_nil y)))) cell) in
    let st = stands_of s o (StructObject cells) there (touched_live code s g o (action.Load n) (value.Object o ∷ []) b a.live refl) in (
      loads z words recs (ground_of s) places k o n (StructObject cells) st.0 v st.1 cell,
      image_of (reads code z s t g (action.Load n) (value.Object o ∷ []) b a) k,
    )

pub at_reads : AtReads
at_reads code z words recs s t g o n v cells places k e b there cell =
    let a = acts code z.page_words s t g action.At (value.Object o ∷ value.Int (pos n) ∷ []) s.plain.memory v e b
    (ap (λ (y : Option Object). Some (answered s.plain.memory (element_in y (pos n)))) there
    ∙ ap (λ (y : Option Value). Some (answered s.plain.memory (or_out_of_range y))) cell) in
    let st = stands_of s o (SliceObject cells) there (touched_live code s g o action.At (value.Object o ∷ value.Int (pos n) ∷ []) b a.live refl) in (
      loads z words recs (ground_of s) places k o (suc n) (SliceObject cells) st.0 v st.1 cell,
      image_of (reads code z s t g action.At (value.Object o ∷ value.Int (pos n) ∷ []) b a) k,
    )

pub len_reads : LenReads
len_reads code z words recs s t g o cells places k e b there =
    let a = acts code z.page_words s t g action.Len (value.Object o ∷ []) s.plain.memory (value.Int (pos (length cells))) e b
    (ap (λ (y : Option Object). Some (Does s.plain.memory (length_in y))) there) in
    let st = stands_of s o (SliceObject cells) there (touched_live code s g o action.Len (value.Object o ∷ []) b a.live refl) in (
      loads z words recs (ground_of s) places k o 0 (SliceObject cells) st.0 (value.Int (pos (length cells))) st.1 refl,
      image_of (reads code z s t g action.Len (value.Object o ∷ []) b a) k,
    )

pub get_reads : GetReads
get_reads code z words recs s t g n v places k e b there =
    let a = acts code z.page_words s t g (action.Get n) [] s.plain.memory v e b
    (ap (λ (y : Option Value). Some (Does s.plain.memory (or_nil y))) there) in (
      gets z words recs (ground_of s) places k n v there,
      image_of (reads code z s t g (action.Get n) [] b a) k,
    )
