-- Examples of new objects, own pages and offers, by computation.
use Rattle.std.proofs.Common.{◌≡◌, ℕ, ◌<◌, true, false, true≢false, List, [], ◌∷◌, Some, None, length, max, nat_lt, slice_get, refl, ap, sym, ◌∙◌, ⊎_elim, arith}
use Rattle.std.proofs.lemmas.Bool.Decides.{nat_tests}
use Rattle.std.proofs.lemmas.Option.{none-some, same_Some}
use Rattle.rgo_sound.specs.Code.Code.{Code, Do}
use Rattle.rgo_core.specs.Frames.shown.WordFrames.{WordFrame, frame_word}
use Rattle.rgo_core.specs.Memory.Records.{Across, Amid, Fill, Rest}
use Rattle.rgo_sound.specs.Machine.declared.limits.Limits.{Limits}
use Rattle.rgo_sound.specs.Memory.Memory.{Channel, Object, SliceObject, StructObject}
use Rattle.rgo_sound.specs.RegionMachine.Examples.{node_struct, plain_instr}
use Rattle.rgo_sound.specs.RegionMachine.Objects.{cells, data_pages, is_spread, is_too_large, most_data_pages, object_words as words_of}
use Rattle.rgo_sound.specs.RegionMachine.declared.regions.Region.TheVariants.{Global as GlobalRegion, Numbered}
use Rattle.rgo_sound.proofs.Places.{head_is}
use Rattle.rgo_sound.specs.Typed.declared.actions.Action.TheVariants as action
use Rattle.rgo_sound.specs.Typed.declared.programs.Struct.{Struct}
use Rattle.rgo_sound.specs.WellFormed.TypeRules.{pointer_to}
use Rattle.rgo_core.specs.Memory.Encoding.{Spot}
use Rattle.rgo_core.proofs.Memory.objects.Spreads.{spread_data}
use Rattle.rgo_core.specs.examples.Channels.{with_words}
use Rattle.rgo_core.specs.Core.{Setup}
use Rattle.rgo_core.specs.Records.{Record}
use Rattle.rgo_core_facts.specs.MemoryExamples.{ObjectExamples, PlaceExamples, at_load, at_three, loading_fields, making_slices, frame_of_three, before_three}
use Rattle.rgo_core_facts.specs.MemoryObjects.{HasWords, NewObject, OfChannel, OfSlice, OfStruct, StoresNext, StoresNextApart}
use Rattle.rgo_core_facts.specs.MemoryWords.{PointerHasField}
use Rattle.rgo_core_facts.proofs.DataPages.{less}
use Rattle.rgo_core_facts.proofs.Lying.{same_number}
use Rattle.rgo_core_facts.proofs.NewWords.{makes_slice}

some_words : (object : Object) → words_of object ≡ 0 → ⊥
some_words (StructObject cells) e = omega (arith, e)
some_words (SliceObject cells) e = omega (arith, e)
some_words (Channel capacity queue closed) e = omega (arith, e)

global_numbered : (slot : ℕ) → ◌≡◌ {A = _} (Some GlobalRegion) (Some (Numbered slot)) → ⊥
global_numbered slot e = let w : GlobalRegion ≡ Numbered slot = same_Some GlobalRegion (Numbered slot) e in cc w

other_words : (limits : Limits) → HasWords (making_slices limits).code frame_of_three action.Slice (0 ∷ []) 3 1 → ⊥
other_words limits (OfStruct n ea en eb) = cc ea
other_words limits (OfSlice p ea ef small en eb) =
    let first : 0 ≡ p = head_is 0 p [] [] ef in
    let length : 3 ≡ frame_word frame_of_three p = ap (frame_word frame_of_three) first in
    omega (arith, en, length)
other_words limits (OfChannel p ea ef small en eb) = cc ea

other_split : (limits : Limits) → HasWords (making_slices limits).code frame_of_three action.Slice (0 ∷ []) 4 0 → ⊥
other_split limits (OfStruct n ea en eb) = cc ea
other_split limits (OfSlice p ea ef small en eb) = omega (arith, eb)
other_split limits (OfChannel p ea ef small en eb) = cc ea

copied : (code : Code) (w : WordFrame) (n before : ℕ) → HasWords code w action.Copy (0 ∷ []) n before → ⊥
copied code w n before (OfStruct k ea en eb) = cc ea
copied code w n before (OfSlice p ea ef small en eb) = cc ea
copied code w n before (OfChannel p ea ef small en eb) = cc ea

two_words : (object : Object) → words_of object ≡ 2 → cells object ≡ 0 → ⊥
two_words (StructObject fields) e none =
    let one : words_of (StructObject fields) ≡ 1 = ap (max 1) none in omega (arith, one, e)
two_words (SliceObject elements) e none = omega (arith, e, none)
two_words (Channel capacity queue closed) e none = omega (arith, e)

no_cell : (T : Setup) (c : Record) (slot : ℕ) (first : ℕ → ℕ) → NewObject T c slot 2 2 first → ⊥
no_cell T c slot first new =
    let e = new.split (omega arith) in two_words new.object new.many (omega (arith, e))

amid_rest : (f : Fill) (object : Object) (stored : List ℕ) → Amid f object stored ≡ Rest → ⊥
amid_rest f object stored e = cc e

same_object : (f g : Fill) (object other : Object) (stored more : List ℕ) → Amid f object stored ≡ Amid g other more → object ≡ other
same_object f g object other stored more e = cc

outside : (T : Setup) (c : Record) (f : Fill) (value : ℕ) → StoresNext T c f (Channel 0 [] false) 3 value → ⊥
outside T c f value s = ⊎_elim
    (λ t. amid_rest f (Channel 0 [] false) (2 ∷ 1 ∷ 0 ∷ []) t.0)
    (λ e.
    let low = s.word.low in
    let words : 3 ≡ words_of s.word.object =
    ap words_of (same_object f s.word.page (Channel 0 [] false) s.word.object (2 ∷ 1 ∷ 0 ∷ []) (2 ∷ 1 ∷ 0 ∷ []) e) in
    omega (arith, low, words))
    s.word.making

same_across : (object other : Object) (stored more : List ℕ) → Across object stored ≡ Across other more → object ≡ other
same_across object other stored more e = cc e

across_rest : (object : Object) (stored : List ℕ) → Across object stored ≡ Rest → ⊥
across_rest object stored e = cc e

less_is : (m n : ℕ) → nat_lt m n ≡ true → m < n
less_is m n e = grind (arith, nat_tests, e)

-- a lead page of fewer than three words has no room for a page number
no_number : (page_words : ℕ) (object : Object) → page_words < 3 → is_spread page_words object ≡ true
    → is_too_large page_words object ≡ false → ⊥
no_number page_words object few spread small =
    let d = spread_data page_words object spread in
    let t : is_too_large page_words object ≡ true =
    less (most_data_pages page_words) (data_pages page_words object) (omega (arith, d, few)) in
    true≢false (sym t ∙ small)

one_cell : (T : Setup) (c : Record) (word value : ℕ) → StoresNextApart T c (Channel 0 [] false) 1 word value → ⊥
one_cell T c word value s = ⊎_elim
    (λ t. across_rest (Channel 0 [] false) (0 ∷ []) t)
    (λ e.
    let same = same_across (Channel 0 [] false) s.new.object (0 ∷ []) (0 ∷ []) e in
    let spread = ap (is_spread T.sizes.page_words) same ∙ s.new.spread in
    let small = ap (is_too_large T.sizes.page_words) same ∙ s.new.small in
    let few = less_is T.sizes.page_words 3 spread in
    no_number T.sizes.page_words (Channel 0 [] false) few spread small)
    s.new.making

no_third : (limits : Limits) → PointerHasField (loading_fields limits) (with_words (6 ∷ 0 ∷ [])) (at_load limits) 0 2 → ⊥
no_third limits f =
    let n = same_number 0 f.number (same_Some (pointer_to 0) (pointer_to f.number) f.typed) in
    let s = same_Some node_struct f.struct (ap (slice_get (node_struct ∷ [])) n ∙ f.there) in
    let l = f.low in
    let e : 2 ≡ length f.struct.fields = ap (λ (s : Struct). length s.fields) s in
    omega (arith, l, e)

pub object_examples : ObjectExamples
object_examples = record {
  in_global = λ limits. refl;
  in_no_other = λ limits slot e. global_numbered slot e;
  has_class = λ limits. record { region = GlobalRegion; in_class = refl; makes = refl; low = omega arith };
  no_class = λ limits m. none-some m.region m.in_class;
  slice = λ limits. makes_slice (making_slices limits) before_three (Some 1) 0 [] (at_three limits) GlobalRegion refl (omega arith);
  no_words = λ T c slot before first new. some_words new.object new.many;
  no_cell = no_cell;
  length_first = refl;
  element = refl;
  control = refl;
  capacity = refl;
  no_buffer = refl;
  buffer = refl;
  words = λ limits. OfSlice 0 refl refl (omega arith) refl refl;
  other_words = other_words;
  other_split = other_split;
  copied = copied;
  empty_struct = refl;
  two_fields = refl;
  fits_page = refl;
  two_data_pages = refl;
  three_data_pages = refl;
  no_page = tt;
  no_room = omega arith;
  room = λ l. omega (arith, l);
  stored = refl;
  amid = refl;
  accesses = refl;
  none_stored = refl;
  outside = outside;
  length_leads = refl;
  first_element = refl;
  last_element = refl;
  first_number = refl;
  second_number = refl;
  element_apart = λ e. let w : 9 ≡ 7 = ap (λ (y : Spot). y.page) e in omega (arith, w);
  length_value = refl;
  element_value = refl;
  number_value = refl;
  number_itself = λ e. let w : 9 ≡ 8 = e in omega (arith, w);
  across = refl;
  none_across = refl;
  one_cell = one_cell;
}

pub place_examples : PlaceExamples
place_examples = record {
  own = λ limits. record { its = refl; low = omega arith; page = omega arith; fill = omega arith };
  of_other_slot = λ limits p. let e = p.its in omega (arith, e);
  no_such_page = λ limits p. let l = p.page in omega (arith, l);
  overfull = λ limits p. let l = p.fill in omega (arith, l);
  has_field = λ limits. record { number = 0; typed = refl; struct = node_struct; there = refl; low = omega arith };
  no_third = no_third;
  offers = λ limits. record {
    send = record {
      w = record { function = 0; next = 0; variables = 6 ∷ 3 ∷ [] };
      ws = [];
      frames = refl;
      instr = plain_instr (Do None action.Send (0 ∷ 1 ∷ []) []);
      cur = refl;
      to = None;
      from = 0 ∷ 1 ∷ [];
      removes = [];
      is = refl;
    };
    address = 5;
    is = refl;
    lies = omega arith;
  };
  beyond = λ limits o. let e = o.is in let l = o.lies in omega (arith, e, l);
  low = λ T c o. let e = o.is in omega (arith, e);
}
