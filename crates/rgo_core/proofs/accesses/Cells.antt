-- The spread struct or slice whose cell a record's next instruction accesses: where its page numbers are, and where a page number leads.
-- That it is one object follows from its address, since its region is live.
use Rattle.std.proofs.Common.{◌≡◌, ℕ, suc, ◌+◌, ◌-◌, ◌/◌, ◌%◌, ◌<◌, ◌≤◌, nat_lt, true, List, [], ◌∷◌, Option, Some, length, map, slice_get, slice_index, refl, ap, sym, subst, ◌∙◌, arith}
use Rattle.std.proofs.lemmas.Bool.Decides.{nat_tests}
use Rattle.std.proofs.lemmas.Option.{same_Some}
use Rattle.rgo_sound.specs.Code.Code.{CodeFn, Do}
use Rattle.rgo_sound.specs.Code.Erasure.{erased_fn}
use Rattle.rgo_sound.specs.Code.Types.{VariableHasType, VariablesHaveTypes}
use Rattle.rgo_sound.specs.Memory.Memory.{Channel, Object, SliceObject, StructObject}
use Rattle.rgo_sound.specs.Memory.declared.values.Value.{Value}
use Rattle.rgo_sound.specs.Memory.declared.values.Value.TheVariants as value
use Rattle.rgo_sound.specs.RegionMachine.Objects.{cells as cells_in, data_pages, is_spread, object_words as words_of}
use Rattle.rgo_sound.specs.RegionMachine.Owed.{code_function}
use Rattle.rgo_sound.specs.RegionMachine.declared.regions.Region.{Region}
use Rattle.rgo_sound.proofs.Places.{contains_here}
use Rattle.rgo_sound.proofs.types.Steps.{var_kind}
use Rattle.rgo_sound.proofs.types.Actions.{object_of}
use Rattle.rgo_sound.specs.Tac.Code.{TacFn}
use Rattle.rgo_sound.specs.Tac.Frames.{value_at}
use Rattle.rgo_sound.specs.Types.{HasKind, ObjectFits}
use Rattle.rgo_sound.specs.Typed.declared.actions.Action.{Action}
use Rattle.rgo_sound.specs.Typed.declared.programs.Struct.{Struct}
use Rattle.rgo_sound.specs.Typed.declared.types.Type.{«Type»}
use Rattle.rgo_sound.specs.WellFormed.TypeRules.{chan_of, pointer_to, slice_of}
use Rattle.rgo_core_channels.proofs.Positions.{page_low}
use Rattle.rgo_core_frames.specs.shown.Operands.{PointsTo}
use Rattle.rgo_core_frames.specs.shown.WordFrames.{frame_word as word_of_frame}
use Rattle.rgo_core_memory.specs.Encoding.{address}
use Rattle.rgo_core_memory.specs.Ground.{IsLiveObject, ground_of}
use Rattle.rgo_core_memory.specs.Image.{word_at}
use Rattle.rgo_core_memory.specs.Spread.{table_words, words_before}
use Rattle.rgo_core_memory.specs.Words.{all_words, base, cell_at}
use Rattle.rgo_core_memory.proofs.objects.Addresses.{number_behind, one_address, word_inside}
use Rattle.rgo_core_memory.proofs.image.Facts.{spread_follow}
use Rattle.rgo_core_memory.proofs.objects.Spreads.{cell_in_table, spread_data}
use Rattle.rgo_core.specs.Core.{Situation, Setup, layout}
use Rattle.rgo_core.specs.ties.Links.{LeadsToSpread}
use Rattle.rgo_core.specs.Next.{IsAtOp}
use Rattle.rgo_core.specs.Records.{Record, memory_of}
use Rattle.rgo_core.proofs.image.Bounds.{as_many as kinds_many}
use Rattle.rgo_core.proofs.steps.Operands as operands
use Rattle.rgo_core.proofs.image.Parts.{I}
use Rattle.rgo_core.proofs.accesses.Slices as slices

-- ---- the types of operands, the first of which has this one

pub first_has : (f : TacFn) (p : ℕ) (others : List ℕ) (tys : List «Type») (ty : «Type») → VariablesHaveTypes f (p ∷ others) tys → VariableHasType f p ty
    → (rest : List «Type») × (tys ≡ ty ∷ rest)
first_has f p others [] ty h has = absurd (cc h)
first_has f p others (t ∷ rest) ty h has =
    (rest, ap (λ u. u ∷ rest) (same_Some t ty (sym (first (slice_get f.variables p) (Some t) (map (slice_get f.variables) others) (map Some rest) h) ∙ has)))
  where
    first : (a b : Option «Type») (l m : List (Option «Type»)) → a ∷ l ≡ b ∷ m → a ≡ b
    first a b l m e = cc e

-- ---- a spread object at this address, with this cell

-- `before` words are before its cells
pub record HasCell {T : Setup} {g : ℕ} {c : Record} (x : Situation T g c) (at cell before : ℕ) : Type 0 where
  pub object : ℕ
  pub other : Object
  pub region : Region
  pub stands : IsLiveObject x.s.plain.memory.heap x.s.owners x.s.regions object other region
  pub begins : at ≡ address (layout T) (I x).places.start object
  pub spread : is_spread T.sizes.page_words other ≡ true
  pub inside : cell < cells_in other
  pub before_is : words_before other ≡ before

less_is : (m n : ℕ) → m < n → nat_lt m n ≡ true
less_is m n l = grind (arith, nat_tests)

module _ {T : Setup} {g : ℕ} {c : Record} (x : Situation T g c) (at cell before : ℕ) (h : HasCell x at cell before) where
  -- its page number, among those of the object
  pub number_low : cell / T.sizes.page_words < data_pages T.sizes.page_words h.other
  number_low =
      let d = spread_data T.sizes.page_words h.other h.spread in
      let w = (I x).memory.lies.inside h.object (words_before h.other + cell) h.other h.region h.stands
      (cell_in_table T.sizes.page_words h.other cell h.inside) in
      let i = w.1 in
      let l = page_low T.sizes.page_words cell (cells_in h.other) (omega (arith, i)) h.inside in
      omega (arith, d, l)

  -- and the word that has it
  pub number_at : word_at (layout T) (I x).places h.object (words_of h.other + cell / T.sizes.page_words)
      ≡ base (layout T) + (at + (before + cell / T.sizes.page_words))
  number_at =
      let n = number_behind (layout T) x.words (map memory_of x.recs) (ground_of x.s) (I x).places (I x).memory h.object h.other h.region h.stands
      h.spread (cell / T.sizes.page_words) number_low in
      let b = h.begins in
      let e = h.before_is in
      omega (arith, n, b, e)

  abbrev found : ℕ
  found = slice_index x.words (base (layout T) + (at + (before + cell / T.sizes.page_words)))

  abbrev follows : (pages : List ℕ)
      × ((i : ℕ) → i < words_before h.other
      → word_at (layout T) (I x).places h.object i ≡ base (layout T) + (address (layout T) (I x).places.start h.object + i))
      × ((j : ℕ) → j < data_pages T.sizes.page_words h.other
      → slice_index x.words (base (layout T) + (address (layout T) (I x).places.start h.object + (words_before h.other + j)))
      ≡ suc (slice_index pages (suc j)))
      × ((i : ℕ) → i < cells_in h.other → word_at (layout T) (I x).places h.object (words_before h.other + i)
      ≡ cell_at (layout T) (slice_index pages (i / T.sizes.page_words + 1)) (i % T.sizes.page_words))
  follows = spread_follow (layout T) x.words (map memory_of x.recs) x.s (I x).places (I x).memory h.object h.other h.region h.stands h.spread

  found_is : found ≡ suc (slice_index follows.0 (suc (cell / T.sizes.page_words)))
  found_is =
      let b = h.begins in
      let e = h.before_is in
      let at_is : base (layout T) + (at + (before + cell / T.sizes.page_words))
      ≡ base (layout T) + (address (layout T) (I x).places.start h.object + (words_before h.other + cell / T.sizes.page_words)) =
      omega (arith, b, e) in
      ap (slice_index x.words) at_is ∙ follows.2 (cell / T.sizes.page_words) number_low

  pub some_number : 0 < found
  some_number = let f = found_is in omega (arith, f)

  pub one_less : found ≡ suc (found - 1)
  one_less = let s = some_number in omega (arith, s)

  -- it leads to the cell
  pub leads : (page : ℕ) → found ≡ suc page
      → word_at (layout T) (I x).places h.object (before + cell) ≡ cell_at (layout T) page (cell % T.sizes.page_words)
  leads page is =
      let f = found_is in
      let e : slice_index follows.0 (suc (cell / T.sizes.page_words)) ≡ page = omega (arith, f, is) in
      let next : cell / T.sizes.page_words + 1 ≡ suc (cell / T.sizes.page_words) = omega arith in
      ap (λ n. word_at (layout T) (I x).places h.object (n + cell)) (sym h.before_is)
      ∙ (follows.3 cell h.inside
      ∙ ap (λ n. cell_at (layout T) n (cell % T.sizes.page_words)) (ap (slice_index follows.0) next ∙ e))

  -- which is in the table
  pub in_table : cell_at (layout T) (found - 1) (cell % T.sizes.page_words) < all_words (layout T)
  in_table =
      let m : before + cell < table_words T.sizes.page_words h.other =
      subst (λ n. n + cell < table_words T.sizes.page_words h.other) h.before_is
      (cell_in_table T.sizes.page_words h.other cell h.inside) in
      subst (λ n. n < all_words (layout T)) (leads (found - 1) one_less)
      (word_inside (layout T) x.words (map memory_of x.recs) (ground_of x.s) (I x).places (I x).memory h.object (before + cell) h.other h.region
      h.stands m)

  -- no other object is at the address
  pub one_there : (o : ℕ) (object : Object) (r : Region) → IsLiveObject x.s.plain.memory.heap x.s.owners x.s.regions o object r
      → at ≡ address (layout T) (I x).places.start o → (h.object ≡ o) × (h.other ≡ object)
  one_there o object r stands begins =
      let same : h.object ≡ o = one_address (layout T) x.words (map memory_of x.recs) (ground_of x.s) (I x).places (I x).memory h.object o h.other
      object h.region r h.stands stands (sym h.begins ∙ begins) in
      (same, same_Some h.other object (sym h.stands.there ∙ (ap (slice_get x.s.plain.memory.heap) same ∙ stands.there)))

-- ---- a struct

module _ {T : Setup} {g : ℕ} {c : Record} (x : Situation T g c) (to : Option ℕ) (act : Action) (p : ℕ) (others removes : List ℕ)
    (a : IsAtOp T.code c (Do to act (p ∷ others) removes)) (at : ℕ) (points : word_of_frame a.w p ≡ suc at) where
  module _ (s : LeadsToSpread T.code T.sizes.page_words a.fn p) (cell : ℕ) (low : cell < length s.struct.fields) where
    tys : (rest : List «Type») × ((operands.rule x to act (p ∷ others) removes a).0 ≡ pointer_to s.number ∷ rest)
    tys = first_has (erased_fn a.fn) p others (operands.rule x to act (p ∷ others) removes a).0 (pointer_to s.number)
        (operands.rule x to act (p ∷ others) removes a).1 s.typed

    abbrev it : PointsTo (I x).addresses x.s (operands.b x to act (p ∷ others) removes a).h
        (value_at (operands.b x to act (p ∷ others) removes a).frame p) at
    it = operands.to_it x to act (p ∷ others) removes a p at (pointer_to s.number) tys.0 others tys.1 refl refl (contains_here p others) points

    fields_there : (cells : List Value) × (slice_get x.s.plain.memory.heap it.object ≡ Some (StructObject cells))
        × (length cells ≡ length s.struct.fields)
    fields_there =
        let fits = (operands.b x to act (p ∷ others) removes a).typed.0 in
        let same : a.fn ≡ fits.0 = same_Some a.fn fits.0 (sym a.in_fn ∙ (ap (code_function T.code)
        (operands.b x to act (p ∷ others) removes a).newest.alike.function ∙ fits.1)) in
        let kinds = (operands.b x to act (p ∷ others) removes a).kinds in
        let kind : HasKind kinds (pointer_to s.number) (value.Object it.object) =
        subst (HasKind kinds (pointer_to s.number)) it.is
        (var_kind kinds (erased_fn fits.0) (operands.b x to act (p ∷ others) removes a).frame fits.2 p (pointer_to s.number)
        (subst (λ (f : CodeFn). VariableHasType (erased_fn f) p (pointer_to s.number)) same s.typed)) in
        let ob = object_of T.code kinds x.s.plain.memory (operands.b x to act (p ∷ others) removes a).memory it.object
        (pointer_to s.number) kind.0 in
        go kinds ob.0 ob.1 ob.2
      where
        layer : (t : «Type») → pointer_to s.number ≡ chan_of t → ⊥
        layer t y = let w = ap (λ (t : «Type»). t.layers) y in cc w

        slice_layer : (t : «Type») → pointer_to s.number ≡ slice_of t → ⊥
        slice_layer t y = let w = ap (λ (t : «Type»). t.layers) y in cc w

        same_number : (m n : ℕ) → pointer_to m ≡ pointer_to n → m ≡ n
        same_number m n e = let b = ap (λ (t : «Type»). t.base) e in cc b

        go : (kinds : List «Type») (object : Object) → slice_get x.s.plain.memory.heap it.object ≡ Some object
            → ObjectFits T.code.structs kinds (pointer_to s.number) object
            → (cells : List Value) × (slice_get x.s.plain.memory.heap it.object ≡ Some (StructObject cells))
            × (length cells ≡ length s.struct.fields)
        go kinds (StructObject cells) e f =
            let number : f.0 ≡ s.number = same_number f.0 s.number (sym f.1) in
            let struct : f.2 ≡ s.struct = same_Some f.2 s.struct (sym f.3 ∙ (ap (slice_get T.code.structs) number ∙ s.there)) in
            (cells, e, kinds_many kinds f.2.fields cells f.4 ∙ ap (λ (y : Struct). length y.fields) struct)
        go kinds (SliceObject cells) e f = absurd (slice_layer f.0 f.1)
        go kinds (Channel capacity queue closed) e f = absurd (layer f.0 f.1)

    pub struct_cell : HasCell x at cell 0
    struct_cell = record {
      object = it.object;
      other = StructObject fields_there.0;
      region = it.region;
      stands = operands.stands x to act (p ∷ others) removes a p at (pointer_to s.number) tys.0 others tys.1 refl refl (contains_here p others)
          points (StructObject fields_there.0) fields_there.1;
      begins = (I x).addressed it.object at it.at;
      spread = let l = s.spread in let m = fields_there.2 in
          less_is T.sizes.page_words (words_of (StructObject fields_there.0)) (omega (arith, l, m));
      inside = let m = fields_there.2 in omega (arith, low, m);
      before_is = let m = fields_there.2 in omega (arith, low, m);
    }

  -- ---- a slice

  module _ (u : «Type») (typed : VariableHasType (erased_fn a.fn) p (slice_of u)) where
    pub slice_tys : (rest : List «Type») × ((operands.rule x to act (p ∷ others) removes a).0 ≡ slice_of u ∷ rest)
    slice_tys = first_has (erased_fn a.fn) p others (operands.rule x to act (p ∷ others) removes a).0 (slice_of u)
        (operands.rule x to act (p ∷ others) removes a).1 typed

    abbrev pub elements : List Value
    elements = (slices.slice_there x to act p others removes a u slice_tys.0 slice_tys.1 (contains_here p others) at points).0

    -- its length is in its first word
    pub length_there : slice_index x.words (base (layout T) + at) ≡ length elements
    length_there = slices.length_word x to act p others removes a u slice_tys.0 slice_tys.1 (contains_here p others) at points

    pub first_word : word_at (layout T) (I x).places
        (slices.it x to act p others removes a u slice_tys.0 slice_tys.1 (contains_here p others) at points).object 0 ≡ base (layout T) + at
    first_word = slices.first_word x to act p others removes a u slice_tys.0 slice_tys.1 (contains_here p others) at points

    pub slice_stands : IsLiveObject x.s.plain.memory.heap x.s.owners x.s.regions
        (slices.it x to act p others removes a u slice_tys.0 slice_tys.1 (contains_here p others) at points).object (SliceObject elements)
        (slices.it x to act p others removes a u slice_tys.0 slice_tys.1 (contains_here p others) at points).region
    slice_stands = slices.slice_stands x to act p others removes a u slice_tys.0 slice_tys.1 (contains_here p others) at points

    module _ (cell : ℕ) (low : cell < slice_index x.words (base (layout T) + at))
        (large : T.sizes.page_words ≤ slice_index x.words (base (layout T) + at)) where
      pub slice_cell : HasCell x at cell 1
      slice_cell = record {
        object = (slices.it x to act p others removes a u slice_tys.0 slice_tys.1 (contains_here p others) at points).object;
        other = SliceObject elements;
        region = (slices.it x to act p others removes a u slice_tys.0 slice_tys.1 (contains_here p others) at points).region;
        stands = slice_stands;
        begins = (I x).addressed
            (slices.it x to act p others removes a u slice_tys.0 slice_tys.1 (contains_here p others) at points).object at
            (slices.it x to act p others removes a u slice_tys.0 slice_tys.1 (contains_here p others) at points).at;
        spread = let l = length_there in less_is T.sizes.page_words (words_of (SliceObject elements)) (omega (arith, l, large));
        inside = let l = length_there in omega (arith, l, low);
        before_is = omega arith;
      }
