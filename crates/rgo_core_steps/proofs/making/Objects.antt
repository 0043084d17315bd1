-- New objects: that what the record computes is what the laws name, and the moves that store their words. Whether a store is the last one
-- is a test of the record (`covers`), and each answer takes another law.
use Rattle.std.specs.Option.{option_map, option_map_or}
use Rattle.std.proofs.Common.{◌≡◌, ◌⊎◌, inl, inr, ⊎_elim, ℕ, zero, suc, ◌+◌, ◌*◌, ◌<◌, ◌≤◌, ◌==◌, ◌^◌, Bool, true, false, List, [], ◌∷◌, Option, Some, None, if◌then◌else◌, map, nat_eq, option_and_then, pos, replicate, slice_get, refl, ap, sym, subst, ◌∙◌, arith}
use Rattle.std.proofs.lemmas.Bool.Decides.{nat_tests}
use Rattle.std.proofs.lemmas.Option.{none-some, same_Some, slice_get-map}
use Rattle.rgo_sound.specs.Code.Code.{Code}
use Rattle.rgo_sound.specs.Code.Erasure.{erased}
use Rattle.rgo_sound.specs.Memory.Memory.{Channel, Object, SliceObject, StructObject}
use Rattle.rgo_sound.specs.Memory.Values.{base_zero, element_zero, element_zero_in, zero_in, zero_of}
use Rattle.rgo_sound.specs.Memory.declared.values.Value.{Value}
use Rattle.rgo_sound.specs.Memory.declared.values.Value.TheVariants as value
use Rattle.rgo_sound.specs.RegionMachine.Objects.{is_spread, object_words as words_of}
use Rattle.rgo_sound.specs.RegionMachine.declared.regions.Region.{Region}
use Rattle.rgo_sound.specs.Tac.Steps.{destination_type}
use Rattle.rgo_sound.specs.Typed.declared.actions.Action.{Action}
use Rattle.rgo_sound.specs.Typed.declared.programs.Struct.{Struct}
use Rattle.rgo_sound.specs.Typed.declared.types.Base.{Base}
use Rattle.rgo_sound.specs.Typed.declared.types.Base.TheVariants as base
use Rattle.rgo_sound.specs.Typed.declared.types.Layer.{Layer}
use Rattle.rgo_sound.specs.Typed.declared.types.Type.{«Type»}
use Rattle.rgo_core.specs.Channels.Records.{at_rest}
use Rattle.rgo_core.proofs.Channels.Lists.{get_replicated}
use Rattle.rgo_core.specs.Frames.shown.WordFrames.{WordFrame, bare, frame_word}
use Rattle.rgo_core.specs.Memory.Encoding.{IsPlain, content, opening_word}
use Rattle.rgo_core.specs.Memory.Pages.{occurrences}
use Rattle.rgo_core.specs.Memory.Parts.{RecordMakes}
use Rattle.rgo_core.specs.Memory.Records.{Fill, Rest, Within, page_of, with_word}
use Rattle.rgo_core.specs.Memory.Words.{cell_at}
use Rattle.rgo_core.specs.ties.Bounds.{Points}
use Rattle.rgo_core.specs.Core.{Setup, layout}
use Rattle.rgo_core.specs.moves.NewObjects.{AChannel, ASlice, AStruct, MakesObject, slot_number}
use Rattle.rgo_core.specs.Records.{Record, accessed}
use Rattle.rgo_core.specs.Steps.{Moves}
use Rattle.rgo_core.proofs.new_objects.Objects.{object_move, word_move}
use Rattle.rgo_core_steps.specs.After.{Position, making}
use Rattle.rgo_core_steps.specs.Making.{IsNewWord, IsPlaced, RecordMakesNext, NewPoints, covers, filling, filling_apart, next_is_spread, object_to_make, next_page, next_slot, object_in, object_of, region_at, object_below, stored_in, struct_of, with_new_word, with_new_word_apart}
use Rattle.rgo_core_steps.proofs.accesses.Cells.{given_type_is}
use Rattle.rgo_core_steps.proofs.record_steps.After.{making_is, position_is}
use Rattle.rgo_core_steps.proofs.accesses.Telling.{tells_more}

-- ---- the object

sized_is : (n limit : ℕ) (object : Object) → n < limit → object_below n limit object ≡ Some object
sized_is n limit object low = grind (arith, nat_tests)

object_is : (code : Code) (w : WordFrame) (to : Option ℕ) (act : Action) (from : List ℕ) (object : Object) → MakesObject code w to act from object
    → object_of code w to act from ≡ Some object
object_is code w to act from object (AStruct n made ea ef es eo) =
    (λ i. object_of code w to (ea i) from) ∙ (ap (λ (y : Option Struct). option_map struct_of y) es ∙ ap (λ (o : Object). Some o) (sym eo))
object_is code w to act from object (ASlice p ea ef small eo) =
    (λ i. object_of code w to (ea i) (ef i))
    ∙ (sized_is (frame_word w p) (2 ^ 63) (SliceObject (replicate (frame_word w p) (element_zero (destination_type (erased code) (bare w) to)))) small
    ∙ ap (λ (o : Object). Some o) (sym eo))
object_is code w to act from object (AChannel p ea ef small eo) =
    (λ i. object_of code w to (ea i) (ef i))
    ∙ (sized_is (frame_word w p) 1073741820 (Channel (frame_word w p) [] false) small ∙ ap (λ (o : Object). Some o) (sym eo))

module _ {T : Setup} {c : Record} {object : Object} {slot : ℕ} (m : RecordMakesNext T c object slot) where
  pub next_object_is : object_to_make T c ≡ Some object
  next_object_is =
      ap (λ (p : Option Position). option_and_then (λ (q : Position). object_in T.code q.w q.instr.op) p) (position_is m.here)
      ∙ (ap (object_in T.code m.here.w) m.here.is ∙ object_is T.code m.here.w m.to m.act m.from object m.makes)

  pub next_slot_is : next_slot T c ≡ Some slot
  next_slot_is =
      ap (λ (p : Option Position). option_map (slot_number (layout T)) (option_and_then (region_at T c) p)) (position_is m.here)
      ∙ (ap (λ (r : Option Region). option_map (slot_number (layout T)) r) m.in_region ∙ ap (λ (s : ℕ). Some s) m.in_slot)

  pub next_page_is : (f : Fill) → page_of slot c.memory.fills ≡ Some f → next_page T c ≡ Some f
  next_page_is f is = ap (λ (o : Option ℕ). option_and_then (λ (s : ℕ). page_of s c.memory.fills) o) next_slot_is ∙ is

  pub filling_is : (f : Fill) → page_of slot c.memory.fills ≡ Some f → (i : ℕ) → filling T c i ≡ with_new_word T c f object i
  filling_is f is i =
      ap (λ (o : Option Object). option_map_or (λ (object : Object). option_map_or (λ (f : Fill). with_new_word T c f object i) (next_page T c) c) o c)
      next_object_is
      ∙ ap (λ (p : Option Fill). option_map_or (λ (f : Fill). with_new_word T c f object i) p c) (next_page_is f is)

  pub filling_apart_is : (i : ℕ) → filling_apart T c i ≡ with_new_word_apart T c object i
  filling_apart_is i =
      ap (λ (o : Option Object). option_map_or (λ (object : Object). with_new_word_apart T c object i) o c) next_object_is

  pub next_is_spread_is : next_is_spread T c ≡ is_spread T.sizes.page_words object
  next_is_spread_is =
      ap (λ (o : Option Object). option_map_or (is_spread T.sizes.page_words) o false) next_object_is

-- ---- its page

pub page_in : (s : ℕ) (fills : List Fill) (f : Fill) → page_of s fills ≡ Some f → Within f fills × (f.slot ≡ s)
page_in s [] f e = absurd (none-some f e)
page_in s (x ∷ xs) f e = by (nat_eq s x.slot) refl (page_in s xs f)
  where
    more : Within f xs × (f.slot ≡ s) → Within f (x ∷ xs) × (f.slot ≡ s)
    more t = ((suc t.0.0, t.0.1), t.1)

    by : (b : Bool) → nat_eq s x.slot ≡ b → (page_of s xs ≡ Some f → Within f xs × (f.slot ≡ s)) → Within f (x ∷ xs) × (f.slot ≡ s)
    by true is rest =
        let same : x ≡ f = same_Some x f (ap (λ b. if b then Some x else page_of s xs) (sym is) ∙ e) in
        let slot : x.slot ≡ s = grind (arith, nat_tests, is) in
        ((0, ap (λ (y : Fill). Some y) same), ap (λ (y : Fill). y.slot) (sym same) ∙ slot)
    by false is rest = more (rest (ap (λ b. if b then Some x else page_of s xs) (sym is) ∙ e))

-- ---- its first values

base_plain : (b : Base) → IsPlain (base_zero b)
base_plain base.Int = tt
base_plain base.Bool = tt
base_plain (base.Pointer struct) = tt

inside_plain : (layers : List Layer) (b : Base) → IsPlain (zero_in layers b)
inside_plain [] b = base_plain b
inside_plain (layer ∷ layers) b = tt

element_plain : (layers : List Layer) (b : Base) → IsPlain (element_zero_in layers b)
element_plain [] b = tt
element_plain (layer ∷ layers) b = inside_plain layers b

mapped_plain : (o : Option «Type») (v : Value) → option_map zero_of o ≡ Some v → IsPlain v
mapped_plain None v e = absurd (none-some v e)
mapped_plain (Some ty) v e = subst IsPlain (same_Some (zero_of ty) v e) (inside_plain ty.layers ty.base)

struct_plain : (types : List «Type») (i : ℕ) (v : Value) → content (StructObject (map zero_of types)) i ≡ Some v → IsPlain v
struct_plain types i v e = mapped_plain (slice_get types i) v (sym (slice_get-map zero_of types i) ∙ e)

slice_plain : (n : ℕ) (ty : «Type») (i : ℕ) (v : Value) → content (SliceObject (replicate n (element_zero ty))) i ≡ Some v → IsPlain v
slice_plain n ty zero v e = subst IsPlain (same_Some _ v e) tt
slice_plain n ty (suc i) v e = subst IsPlain (get_replicated n (element_zero ty) i v e) (element_plain ty.layers ty.base)

channel_plain : (n i : ℕ) (v : Value) → content (Channel n [] false) i ≡ Some v → IsPlain v
channel_plain n zero v e = absurd (none-some v e)
channel_plain n (suc zero) v e = subst IsPlain (same_Some (value.Int (pos n)) v e) tt
channel_plain n (suc (suc i)) v e = absurd (none-some v e)

pub object_plain : (code : Code) (w : WordFrame) (to : Option ℕ) (act : Action) (from : List ℕ) (object : Object) → MakesObject code w to act from object
    → (i : ℕ) (v : Value) → content object i ≡ Some v → IsPlain v
object_plain code w to act from object (AStruct n made ea ef es eo) i v e =
    struct_plain made.fields i v (ap (λ (o : Object). content o i) (sym eo) ∙ e)
object_plain code w to act from object (ASlice p ea ef small eo) i v e =
    slice_plain (frame_word w p) (destination_type (erased code) (bare w) to) i v (ap (λ (o : Object). content o i) (sym eo) ∙ e)
object_plain code w to act from object (AChannel p ea ef small eo) i v e =
    channel_plain (frame_word w p) i v (ap (λ (o : Object). content o i) (sym eo) ∙ e)

-- ---- its words

at_last : (i n : ℕ) → i < suc n → (i < n) ⊎ (i ≡ n)
at_last i n l = grind (arith, nat_tests)

pub covers_all : (n : ℕ) (stored : List ℕ) → covers n stored ≡ true → (i : ℕ) → i < n → 0 < occurrences i stored
covers_all zero stored e i low = absurd (omega arith)
covers_all (suc n) stored e i low = by (occurrences n stored == 0) refl (λ rest l. covers_all n stored rest i l)
  where
    by : (b : Bool) → (occurrences n stored == 0) ≡ b → (covers n stored ≡ true → i < n → 0 < occurrences i stored) → 0 < occurrences i stored
    by true is below = absurd (let x : false ≡ true = ap (λ b. if b then false else covers n stored) (sym is) ∙ e in cc x)
    by false is below =
        let some : 0 < occurrences n stored = grind (arith, nat_tests, is) in
        ⊎_elim (below (ap (λ b. if b then false else covers n stored) (sym is) ∙ e)) (λ (same : i ≡ n). subst (λ j. 0 < occurrences j stored) (sym same) some)
        (at_last i n low)

module _ {T : Setup} (g : ℕ) {c : Record} {i word value : ℕ} (k : IsNewWord T c i word value) where
  makes : RecordMakes (layout T) c.memory k.page k.object (stored_in c.memory.make)
  makes = ⊎_elim
      (λ (t : (c.memory.make ≡ Rest) × (k.page.fill + words_of k.object ≤ T.sizes.page_words)). inr (
        t.0,
        ap stored_in t.0,
        (page_in k.slot c.memory.fills k.page k.is_page).0,
        t.1,
        object_plain T.code k.next.here.w k.next.to k.next.act k.next.from k.object k.next.makes,
      ))
      (λ e. inl e)
      k.making

  abbrev to_word : (P : ℕ → Record → Type 0)
      → Moves T g c (cell_at (layout T) k.page.page (k.page.fill + i)) (λ n. opening_word (content k.object i)) P → Moves T g c word (λ n. value) P
  to_word P m = subst (λ w. Moves T g c w (λ n. value) P) (sym k.at)
      (subst (λ v. Moves T g c (cell_at (layout T) k.page.page (k.page.fill + i)) (λ n. v) P) (sym k.opens) m)

  abbrev stored : List ℕ
  stored = i ∷ stored_in c.memory.make

  after : (b : Bool) → covers (words_of k.object) stored ≡ b
      → filling T c i ≡ (if b then making T c k.page k.object
      else record c { clock = accessed c.clock; memory = with_word c.memory k.page k.object stored })
  after b is =
      filling_is k.next k.page k.is_page i
      ∙ ap (λ b. if b then making T c k.page k.object
      else record c { clock = accessed c.clock; memory = with_word c.memory k.page k.object stored }) is

  abbrev Tells : ℕ → Record → Type 0
  Tells n d = (d ≡ filling T c i) × NewPoints T c i

  placed : IsPlaced T c k.page k.object → NewPoints T c i
  placed is object f made on all =
      let o : k.object ≡ object = same_Some k.object object (sym (next_object_is k.next) ∙ made) in
      let p : k.page ≡ f = same_Some k.page f (sym (next_page_is k.next k.page k.is_page) ∙ on) in
      subst (λ (o : Object). IsPlaced T c f o) o (subst (λ (p : Fill). IsPlaced T c p k.object) p is)

  none_yet : covers (words_of k.object) stored ≡ false → NewPoints T c i
  none_yet lacks object f made on all =
      let o : k.object ≡ object = same_Some k.object object (sym (next_object_is k.next) ∙ made) in
      absurd (let e : false ≡ true = sym lacks ∙ (ap (λ (o : Object). covers (words_of o) stored) o ∙ all) in cc e)

  pub zero_moves : c.side ≡ at_rest → Moves T g c word (λ n. value) (λ n d. (d ≡ filling T c i) × NewPoints T c i)
  zero_moves rests = by (covers (words_of k.object) stored) refl
    where
      by : (b : Bool) → covers (words_of k.object) stored ≡ b → Moves T g c word (λ n. value) Tells
      by true is = to_word Tells (tells_more T g c (cell_at (layout T) k.page.page (k.page.fill + i))
          (λ n. opening_word (content k.object i))
          (λ n d e. (
            e.0 ∙ (sym (making_is T k.next.here k.page k.object) ∙ sym (after true is)),
            placed (e.1, subst (λ ty. Points T ty (suc (k.page.page * T.sizes.page_words + k.page.fill))) (sym (given_type_is T k.next.here)) e.2),
          ))
          (object_move T g c k.next.to k.next.act k.next.from k.next.removes k.next.here k.object k.next.region k.page
          (stored_in c.memory.make) i rests k.next.makes k.next.in_region
          ((page_in k.slot c.memory.fills k.page k.is_page).1 ∙ sym k.next.in_slot) makes k.low
          (covers_all (words_of k.object) stored is)))
      by false is = to_word Tells (tells_more T g c (cell_at (layout T) k.page.page (k.page.fill + i))
          (λ n. opening_word (content k.object i)) (λ n d e. (e ∙ sym (after false is), none_yet is))
          (word_move T g c k.page k.object (stored_in c.memory.make) i makes k.low))
