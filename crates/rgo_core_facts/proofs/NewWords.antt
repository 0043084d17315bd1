-- Which object the next instruction makes, in which region, and what its words first hold. New objects hold zeros, and the word of each
-- zero is 0.
use Rattle.std.proofs.Common.{◌≡◌, ℕ, zero, suc, ◌+◌, ◌<◌, ◌≤◌, ◌^◌, true, false, pos, List, [], ◌∷◌, Option, Some, None, if◌then◌else◌, length, map, max, nat_lt, option_map, replicate, slice_get, refl, ap, sym, subst, ◌∙◌, arith}
use Rattle.std.proofs.lemmas.Bool.Decides.{nat_tests}
use Rattle.std.proofs.lemmas.List.{length-map, length-replicate}
use Rattle.std.proofs.lemmas.Option.{slice_get-map}
use Rattle.std.specs.Int.{w64, cast_unsigned}
use Rattle.std.specs.Option.{option_map_or}
use Rattle.rgo_sound.specs.Code.Code.{CodeFn, CodeOp, Do}
use Rattle.rgo_sound.specs.Code.Erasure.{erased, erased_fn}
use Rattle.rgo_sound.specs.Code.Names.{class_of}
use Rattle.rgo_sound.specs.Code.Types.{DoFits, VariablesHaveTypes}
use Rattle.rgo_sound.specs.Memory.Memory.{Channel, Object, SliceObject, StructObject}
use Rattle.rgo_sound.specs.Memory.Values.{base_zero, element_zero, element_zero_in, zero_in, zero_of}
use Rattle.rgo_sound.specs.Memory.declared.values.Value.{Value}
use Rattle.rgo_sound.specs.RegionMachine.Objects.{cells, is_spread, makes_object, making_region, most_data_pages, target_class, object_words as words_of}
use Rattle.rgo_sound.specs.RegionMachine.Owed.{function_at, code_function}
use Rattle.rgo_sound.specs.RegionMachine.Regions.{Bindings, class_region}
use Rattle.rgo_sound.specs.RegionMachine.States.{Holder, top_names}
use Rattle.rgo_sound.specs.RegionMachine.declared.regions.Region.{Region}
use Rattle.rgo_sound.proofs.offers.Offers.{makes_at}
use Rattle.rgo_sound.proofs.Places.{get_some}
use Rattle.rgo_sound.proofs.Progress.{HasTarget, region_there, target, top}
use Rattle.rgo_sound.specs.Tac.Code.{Tac, TacFn}
use Rattle.rgo_sound.specs.Tac.Steps.{destination_type}
use Rattle.rgo_sound.specs.Typed.declared.actions.Action.{Action}
use Rattle.rgo_sound.specs.Typed.declared.actions.Action.TheVariants as action
use Rattle.rgo_sound.specs.Typed.declared.programs.Struct.{Struct}
use Rattle.rgo_sound.specs.Typed.declared.types.Base.{Base}
use Rattle.rgo_sound.specs.Typed.declared.types.Base.TheVariants as base
use Rattle.rgo_sound.specs.Typed.declared.types.Layer.{Layer}
use Rattle.rgo_sound.specs.Typed.declared.types.Type.{«Type»}
use Rattle.rgo_core.proofs.Channels.Lists.{get_replicated}
use Rattle.rgo_core.specs.Frames.steps.Before.{IsBefore}
use Rattle.rgo_core.specs.Frames.steps.Makes.{MakesAt}
use Rattle.rgo_core.specs.Frames.regions.Slots.{slotted_region, slot_names}
use Rattle.rgo_core.specs.Frames.shown.WordFrames.{bare, frame_word}
use Rattle.rgo_core.proofs.Frames.regions.Making.{region_law}
use Rattle.rgo_core.proofs.Frames.regions.SlotLemmas.{class_slot, top_slot}
use Rattle.rgo_core.specs.Memory.Encoding.{content, opening_word}
use Rattle.rgo_core.specs.Core.{Situation, Setup, layout}
use Rattle.rgo_core.specs.moves.NewObjects.{AChannel, ASlice, AStruct, slot_number}
use Rattle.rgo_core.specs.Next.{IsAtOp}
use Rattle.rgo_core.specs.Records.{Record}
use Rattle.rgo_core.proofs.image.Encodings.{small_word}
use Rattle.rgo_core.proofs.new_objects.NewObjects.{slot_is}
use Rattle.rgo_core.proofs.steps.Operands as operands
use Rattle.rgo_core.proofs.image.Parts.{I}
use Rattle.rgo_core.proofs.image.Standing.{at_instruction}
use Rattle.rgo_core.specs.Memory.Records.{page_of}
use Rattle.rgo_core_facts.specs.MemoryObjects.{PageHasNoRoom, HasRegion, MakesChannel, MakesIn, MakesSlice, MakesStruct, SpreadIsNext, PagesAre, WantsPage, WantsReserved, all_struct_words, channel_opens, slice_opens}
use Rattle.rgo_core_steps.proofs.making.Objects.{next_object_is}
use Rattle.rgo_core_facts.proofs.DataPages.{less, not_less, pages_so}
use Rattle.rgo_core_facts.proofs.OwnPages.{one_page, slot_low}

-- ---- the region

-- it is that of the class of the variable that points to the object
making_class : (f : Option CodeFn) (fn : CodeFn) (names : Bindings) (op : CodeOp) (to : Option ℕ) (act : Action) (from removes : List ℕ) (d : ℕ)
    → f ≡ Some fn → op ≡ Do to act from removes → to ≡ Some d → makes_object act ≡ true
    → making_region f names op ≡ class_region names (class_of fn d)
making_class f fn names op to act from removes d ef eo et makes =
    ap (making_region f names) eo ∙ (λ i. if makes i then class_region names (target_class (ef i) (et i)) else None)

module _ {T : Setup} {g : ℕ} {c : Record} (x : Situation T g c) (to : Option ℕ) (act : Action) (from removes : List ℕ)
    (a : IsAtOp T.code c (Do to act from removes)) where
  -- the slot of its region is small
  region_low : (r : Region) → MakesIn T c a r → slot_number (layout T) r ≤ T.sizes.regions
  region_low r makes =
      let m : MakesAt (at_instruction x a) r = region_law (at_instruction x a) r makes in
      let l = slot_low x m.region m.live in
      subst (λ (n : ℕ). n ≤ T.sizes.regions)
      (sym (slot_is (layout T) (I x).places.slot m.region) ∙ ap (slot_number (layout T)) m.slot_is) l

  module _ (makes : makes_object act ≡ true) where
    abbrev b : IsBefore T.code (I x).places.slot (I x).addresses x.s g c.frame a.w a.ws a.instr
    b = (at_instruction x a).before

    its_target : HasTarget (erased_fn (top T.code x.core.sound.checked x.s g b.h b.frame b.callers a.instr x.core.sound.good b.there b.at b.cur
        b.none).stands.fn) to
    its_target = target T.code x.core.sound.checked x.s g b.h b.frame b.callers a.instr x.core.sound.good b.there b.at b.cur b.none
        to act from removes a.is makes

    abbrev d : ℕ
    d = its_target.variable

    in_state : (r : Region) × (making_region (function_at T.code b.frame) (top_names b.h.environments) a.instr.op ≡ Some r)
    in_state = region_there T.code x.core.sound.checked x.s g b.h b.frame b.callers a.instr x.core.sound.good b.there b.at b.cur b.none
        (ap makes_at a.is ∙ makes)

    fn_is : function_at T.code b.frame ≡ Some a.fn
    fn_is = ap (code_function T.code) (sym b.newest.alike.function) ∙ a.in_fn

    abbrev by_slot : Region
    by_slot = slotted_region (I x).places.slot in_state.0

    names_are : top_names c.frame.holder.environments ≡ slot_names (I x).places.slot (top_names b.h.environments)
    names_are = ap (λ (h : Holder). top_names h.environments) b.holder ∙ top_slot (I x).places.slot b.h.environments

    in_class : class_region (top_names c.frame.holder.environments) (class_of a.fn d) ≡ Some by_slot
    in_class =
        ap (λ (names : Bindings). class_region names (class_of a.fn d)) names_are
        ∙ (class_slot (I x).places.slot (top_names b.h.environments) (class_of a.fn d)
        ∙ ap (option_map (slotted_region (I x).places.slot))
        (sym (making_class (function_at T.code b.frame) a.fn (top_names b.h.environments) a.instr.op to act from removes d fn_is a.is
        its_target.is makes) ∙ in_state.1))

    makes_in : MakesIn T c a by_slot
    makes_in = making_class (code_function T.code a.w.function) a.fn (top_names c.frame.holder.environments) a.instr.op to act from removes d
        a.in_fn a.is its_target.is makes ∙ in_class

pub has_region : HasRegion
has_region T g c x to act from removes a makes = (
  d x to act from removes a makes,
  (its_target x to act from removes a makes).is,
  record {
    region = by_slot x to act from removes a makes;
    in_class = in_class x to act from removes a makes;
    makes = makes_in x to act from removes a makes;
    low = region_low x to act from removes a (by_slot x to act from removes a makes) (makes_in x to act from removes a makes);
  },
)

-- ---- first values

base_opens : (b : Base) → opening_word (Some (base_zero b)) ≡ 0
base_opens base.Int = small_word 0 (omega arith)
base_opens base.Bool = refl
base_opens (base.Pointer struct) = refl

inside_opens : (layers : List Layer) (b : Base) → opening_word (Some (zero_in layers b)) ≡ 0
inside_opens [] b = base_opens b
inside_opens (layer ∷ layers) b = refl

element_opens : (layers : List Layer) (b : Base) → opening_word (Some (element_zero_in layers b)) ≡ 0
element_opens [] b = refl
element_opens (layer ∷ layers) b = inside_opens layers b

field_opens : (o : Option «Type») → opening_word (option_map zero_of o) ≡ 0
field_opens None = refl
field_opens (Some ty) = inside_opens ty.layers ty.base

cell_opens : (n : ℕ) (ty : «Type») (i : ℕ) → opening_word (slice_get (replicate n (element_zero ty)) i) ≡ 0
cell_opens n ty i = by (slice_get (replicate n (element_zero ty)) i) refl
  where
    by : (o : Option Value) → slice_get (replicate n (element_zero ty)) i ≡ o → opening_word o ≡ 0
    by None e = refl
    by (Some v) e = ap (λ (y : Value). opening_word (Some y)) (sym (get_replicated n (element_zero ty) i v e)) ∙ element_opens ty.layers ty.base

slice_so : (n : ℕ) (ty : «Type») (i : ℕ) → n < 2 ^ 63 → opening_word (content (SliceObject (replicate n (element_zero ty))) i) ≡ slice_opens n i
slice_so n ty zero small = ap (λ (k : ℕ). cast_unsigned w64 (pos k)) (length-replicate n (element_zero ty)) ∙ small_word n small
slice_so n ty (suc i) small =
    let none : slice_opens n (suc i) ≡ 0 = grind (arith, nat_tests) in cell_opens n ty i ∙ sym none

channel_so : (n i : ℕ) → n < 2 ^ 63 → opening_word (content (Channel n [] false) i) ≡ channel_opens n i
channel_so n zero small = refl
channel_so n (suc zero) small = small_word n small
channel_so n (suc (suc i)) small = let none : channel_opens n (suc (suc i)) ≡ 0 = grind (arith, nat_tests) in sym none

-- ---- structs

new_takes : (code : Tac) (f : TacFn) (to : Option ℕ) (n : ℕ) (tys : List «Type») → DoFits code f to (action.New n) tys
    → (tys ≡ []) × (n < length code.structs)
new_takes code f None n tys fits = absurd fits
new_takes code f (Some d) n tys fits =
    let r = fits.2 in
    let l = r.2 in
    let m = length-map code.structs (λ (s : Struct). s.fields) in
    (r.0, omega (arith, l, m))

none_taken : (f : TacFn) (from : List ℕ) (tys : List «Type») → tys ≡ [] → VariablesHaveTypes f from tys → from ≡ []
none_taken f [] tys e h = refl
none_taken f (v ∷ vs) tys e h =
    let w : slice_get f.variables v ∷ map (slice_get f.variables) vs ≡ [] = h ∙ ap (map Some) e in cc w

pub struct_there : {T : Setup} {g : ℕ} {c : Record} (x : Situation T g c) (to : Option ℕ) (n : ℕ) (from removes : List ℕ)
    → IsAtOp T.code c (Do to (action.New n) from removes) → (from ≡ []) × (s : Struct) × (slice_get T.code.structs n ≡ Some s)
struct_there {T} x to n from removes a =
    let r = operands.rule x to (action.New n) from removes a in
    let t = new_takes (erased T.code) (erased_fn a.fn) to n r.0 r.2 in
    let s = get_some T.code.structs n t.1 in
    (none_taken (erased_fn a.fn) from r.0 t.0 r.1, s.0, s.1)

pub struct_many : (structs : List Struct) (n : ℕ) (s : Struct) → slice_get structs n ≡ Some s
    → words_of (StructObject (map zero_of s.fields)) ≡ all_struct_words (slice_get structs n)
struct_many structs n s e = ap (max 1) (length-map s.fields zero_of) ∙ sym (ap all_struct_words e)

-- it has no words before its cells
pub struct_split : (structs : List Struct) (n : ℕ) (s : Struct) → slice_get structs n ≡ Some s → 1 < all_struct_words (slice_get structs n)
    → cells (StructObject (map zero_of s.fields)) + 0 ≡ all_struct_words (slice_get structs n)
struct_split structs n s e more =
    let l = length-map s.fields zero_of in
    let many : all_struct_words (slice_get structs n) ≡ max 1 (length s.fields) = ap all_struct_words e in
    omega (arith, l, many, more)

pub makes_struct : MakesStruct
makes_struct T g c x to n from removes a r makes =
    let s = struct_there x to n from removes a in
    record {
      object = StructObject (map zero_of s.1.fields);
      next = record {
        to = to;
        act = action.New n;
        from = from;
        removes = removes;
        here = a;
        makes = AStruct n s.1 refl s.0 s.2 refl;
        region = r;
        in_region = makes;
        in_slot = refl;
      };
      many = struct_many T.code.structs n s.1 s.2;
      split = struct_split T.code.structs n s.1 s.2;
      opens = λ i low. ap opening_word (slice_get-map zero_of s.1.fields i) ∙ field_opens (slice_get s.1.fields i);
    }

-- ---- slices and channels

pub makes_slice : MakesSlice
makes_slice T c to p removes a r makes small = record {
  object = SliceObject (replicate (frame_word a.w p) (element_zero (destination_type (erased T.code) (bare a.w) to)));
  next = record {
    to = to;
    act = action.Slice;
    from = p ∷ [];
    removes = removes;
    here = a;
    makes = ASlice p refl refl small refl;
    region = r;
    in_region = makes;
    in_slot = refl;
  };
  many = ap (λ (n : ℕ). 1 + n) (length-replicate (frame_word a.w p) (element_zero (destination_type (erased T.code) (bare a.w) to)))
      ∙ (let e : 1 + frame_word a.w p ≡ suc (frame_word a.w p) = omega arith in e);
  split = λ more.
      let l = length-replicate (frame_word a.w p) (element_zero (destination_type (erased T.code) (bare a.w) to)) in omega (arith, l);
  opens = λ i low. slice_so (frame_word a.w p) (destination_type (erased T.code) (bare a.w) to) i small;
}

pub makes_channel : MakesChannel
makes_channel T c to p removes a r makes small = record {
  object = Channel (frame_word a.w p) [] false;
  next = record {
    to = to;
    act = action.Chan;
    from = p ∷ [];
    removes = removes;
    here = a;
    makes = AChannel p refl refl small refl;
    region = r;
    in_region = makes;
    in_slot = refl;
  };
  many = refl;
  split = λ more. omega arith;
  opens = λ i low. channel_so (frame_word a.w p) i (omega (arith, small));
}

-- ---- a page

pub wants_page : WantsPage
wants_page T g c x slot words before first new fits lacks = record {
  object = new.object;
  next = new.next;
  fits = let m = new.many in omega (arith, m, fits);
  full = λ f within its.
      let no_room : T.sizes.page_words < f.fill + words =
      subst (PageHasNoRoom T.sizes.page_words words) (ap (λ (s : ℕ). page_of s c.memory.fills) (sym its) ∙ one_page x f within) lacks in
      let m = new.many in omega (arith, no_room, m);
}

-- ---- spread objects

pub pages_are : PagesAre
pages_are T c slot words before first new = pages_so T.sizes.page_words new.object words before new.many new.split

pub next_is_spread : SpreadIsNext
next_is_spread T c slot words before first new =
    ap (λ (o : Option Object). option_map_or (is_spread T.sizes.page_words) o false) (next_object_is new.next)
    ∙ ap (nat_lt T.sizes.page_words) new.many

pub wants_reserved : WantsReserved
wants_reserved T c slot words before first new large few lacks =
    let pages = pages_are T c slot words before first new in
    record {
      object = new.object;
      next = new.next;
      spread = ap (nat_lt T.sizes.page_words) new.many ∙ less T.sizes.page_words words large;
      small = ap (nat_lt (most_data_pages T.sizes.page_words)) pages ∙ not_less (most_data_pages T.sizes.page_words) _ few;
      more = omega (arith, pages, lacks);
    }
