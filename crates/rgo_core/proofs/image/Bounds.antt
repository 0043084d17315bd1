-- The words of live objects are in the pages, and so are those to which a word of a pointer leads. A pointer's type gives the least size of
-- its object. Every value that an action can have leads to live objects, since what it reads does.
use Rattle.std.proofs.Common.{◌≡◌, ℕ, suc, ◌+◌, ◌-◌, ◌*◌, ◌<◌, ◌≤◌, false, true, List, [], ◌∷◌, Option, Some, None, length, map, max, if◌then◌else◌, option_map, slice_get, refl, ap, sym, subst, ◌∙◌, arith, true≢false}
use Rattle.std.proofs.lemmas.List.{length-map}
use Rattle.std.proofs.lemmas.Option.{get_or_from_slice_get, same_Some, slice_get-map}
use Rattle.rgo_sound.specs.Code.Code.{Code, CodeFn, Do}
use Rattle.rgo_sound.specs.Code.Erasure.{erased, erased_fn}
use Rattle.rgo_sound.specs.Code.Types.{DoFits, VariableHasType}
use Rattle.rgo_sound.specs.Memory.Effects.{Does as DoesSo}
use Rattle.rgo_sound.specs.Memory.Memory.{Channel, Memory as Heap, Object, SliceObject, StructObject}
use Rattle.rgo_sound.specs.Memory.declared.values.Value.{Value}
use Rattle.rgo_sound.specs.Memory.declared.values.Value.TheVariants as value
use Rattle.rgo_sound.specs.RegionMachine.Objects.{cells as cells_in, data_pages, is_spread, object_words as words_of}
use Rattle.rgo_sound.specs.RegionMachine.Owed.{function_at, code_function}
use Rattle.rgo_sound.specs.RegionMachine.States.{RegionState}
use Rattle.rgo_sound.specs.RegionMachine.declared.regions.Region.{Region}
use Rattle.rgo_sound.proofs.steps.Acting.{performed}
use Rattle.rgo_sound.proofs.plain.Steps.{Always}
use Rattle.rgo_sound.proofs.steps.HeapGrows.{SameSize}
use Rattle.rgo_sound.proofs.Places.{each_get}
use Rattle.rgo_sound.proofs.Tests.{split}
use Rattle.rgo_sound.specs.Memory.Values.{zero_of}
use Rattle.rgo_sound.proofs.types.Steps.{vars_kinds}
use Rattle.rgo_sound.proofs.types.Actions.{Performed, object_of, returns, takes}
use Rattle.rgo_sound.specs.Safety.{cells_of}
use Rattle.rgo_sound.specs.Types.{FrameFits, HasKind, HaveKinds, MemoryFits, ObjectFits}
use Rattle.rgo_sound.specs.Values.{LeadsInto}
use Rattle.rgo_sound.specs.Tac.Frames.{TacFrame, operand_values}
use Rattle.rgo_sound.specs.Tac.Steps.{variable_type, destination_type}
use Rattle.rgo_sound.specs.Typed.Types.{is_pointer_like}
use Rattle.rgo_sound.specs.Typed.declared.actions.Action.{Action}
use Rattle.rgo_sound.specs.Typed.declared.programs.Struct.{Struct}
use Rattle.rgo_sound.specs.Typed.declared.types.Type.{«Type»}
use Rattle.rgo_core_frames.specs.Fits.{IsOfLive}
use Rattle.rgo_core_frames.specs.shown.Words.{Shows}
use Rattle.rgo_core_memory.specs.Encoding.{Spot, address}
use Rattle.rgo_core_memory.specs.Ground.{IsLiveObject}
use Rattle.rgo_core_memory.specs.Image.{StateImage, Where}
use Rattle.rgo_core_memory.specs.Records.{Rec as MemoryRec}
use Rattle.rgo_core_memory.specs.Spread.{table_words, words_before}
use Rattle.rgo_core_memory.proofs.image.Facts.{follow}
use Rattle.rgo_core_memory.proofs.objects.Spreads.{in_table, number_spot, same_data, same_spread, spread_data}
use Rattle.rgo_core_memory.proofs.Writes.{in_pages}
use Rattle.rgo_core.specs.ties.Bounds.{LieInPages, Points, least_words, row_words, struct_words, target_type}
use Rattle.rgo_core.specs.Core.{Situation, Setup, layout}
use Rattle.rgo_core.specs.Next.{IsAtOp}
use Rattle.rgo_core.specs.Records.{Record}
use Rattle.rgo_core.proofs.new_objects.MakesObject.{type_alike}
use Rattle.rgo_core.proofs.steps.Operands as operands

-- ---- an object has at least the words of its type

pub as_many : (kinds tys : List «Type») (vs : List Value) → HaveKinds kinds tys vs → length vs ≡ length tys
as_many kinds [] [] h = refl
as_many kinds [] (v ∷ vs) h = absurd h
as_many kinds (ty ∷ tys) [] h = absurd h
as_many kinds (ty ∷ tys) (v ∷ vs) h = ap suc (as_many kinds tys vs h.1)

-- objects of one size
pub same_row : (page_words : ℕ) (was object : Object) → SameSize was object → row_words page_words object ≡ row_words page_words was
same_row page_words was object same =
    ap (λ b. if b then words_before object + data_pages page_words object else words_of object) (same_spread page_words was object same)
    ∙ (ap (λ n. if is_spread page_words was then words_before object + n else words_of object) (same_data page_words was object same)
    ∙ (ap (λ w. if is_spread page_words was then (w - cells_in object) + data_pages page_words was else w) same.0
    ∙ ap (λ k. if is_spread page_words was then (words_of was - k) + data_pages page_words was else words_of was) same.1))

-- for a spread object, and for another one
pub spread_row : (page_words : ℕ) (object : Object) → is_spread page_words object ≡ true
    → row_words page_words object ≡ words_before object + data_pages page_words object
spread_row page_words object sp = ap (λ b. if b then words_before object + data_pages page_words object else words_of object) sp

pub whole_row : (page_words : ℕ) (object : Object) → is_spread page_words object ≡ false → row_words page_words object ≡ words_of object
whole_row page_words object whole = ap (λ b. if b then words_before object + data_pages page_words object else words_of object) whole

-- words before the cells, and one more
row_more : (page_words : ℕ) (object : Object) → words_before object < words_of object
    → words_before object + 1 ≤ row_words page_words object
row_more page_words object more = split (is_spread page_words object)
    (λ sp. let e = spread_row page_words object sp in let d = spread_data page_words object sp in omega (arith, e, d))
    (λ whole. let e = whole_row page_words object whole in omega (arith, e, more))

large_enough : (page_words : ℕ) (structs : List Struct) (kinds : List «Type») (ty : «Type») (object : Object) → ObjectFits structs kinds ty object
    → least_words page_words structs ty ≤ row_words page_words object
large_enough page_words structs kinds ty (StructObject cells) (n, is, s, at, h) =
    let e : least_words page_words structs ty ≡ row_words page_words (StructObject (map zero_of s.fields)) =
    ap (least_words page_words structs) is ∙ ap (struct_words page_words) at in
    let l : length cells ≡ length (map zero_of s.fields) = as_many kinds s.fields cells h ∙ sym (length-map s.fields zero_of) in
    let q = same_row page_words (StructObject (map zero_of s.fields)) (StructObject cells) (ap (λ k. max 1 k) l, l) in
    omega (arith, e, q)
large_enough page_words structs kinds ty (SliceObject cells) (u, is, h) =
    let e : least_words page_words structs ty ≡ 1 = ap (least_words page_words structs) is in
    split (is_spread page_words (SliceObject cells))
    (λ sp. let r = spread_row page_words (SliceObject cells) sp in omega (arith, e, r))
    (λ whole. let r = whole_row page_words (SliceObject cells) whole in omega (arith, e, r))
large_enough page_words structs kinds ty (Channel capacity queue closed) (u, is, h) =
    let e : least_words page_words structs ty ≡ 3 = ap (least_words page_words structs) is in
    let m = row_more page_words (Channel capacity queue closed) (omega arith) in
    omega (arith, e, m)

last_low : (object : Object) → words_of object - 1 < words_of object
last_low (StructObject cells) = omega arith
last_low (SliceObject cells) = omega arith
last_low (Channel capacity queue closed) = omega arith

-- ---- values that lead to live objects

-- if it is an object, it is in a live region
abbrev pub LeadsToLive : RegionState → Value → Type 0
LeadsToLive s v = (o : ℕ) → v ≡ value.Object o → IsOfLive s.regions s.owners o

-- what an object holds leads into its own region
pub held_live : {T : Setup} {g : ℕ} {c : Record} (x : Situation T g c) (o : ℕ) (object : Object) (r : Region)
    → IsLiveObject x.s.plain.memory.heap x.s.owners x.s.regions o object r → (i : ℕ) (v : Value) → slice_get (cells_of object) i ≡ Some v
    → LeadsToLive x.s v
held_live x o object r stands i v e p is = (
  r,
  subst (LeadsInto x.s.owners r) is
      (each_get (LeadsInto x.s.owners r) (cells_of object) i v
      (x.core.sound.good.good.values.memory.cells o object r stands.there stands.owner) e),
  stands.live,
)

-- ---- a word that shows a value of a type

module _ (T : Setup) (words : List ℕ) (recs : List MemoryRec) (s : RegionState) (places : Where) (M : StateImage (layout T) words recs s places) where
  -- the words that follow the address of a live object
  pub lies_in : (o : ℕ) (object : Object) (r : Region) → IsLiveObject s.plain.memory.heap s.owners s.regions o object r
      → LieInPages T (address (layout T) places.start o) (row_words T.sizes.page_words object)
  lies_in o object r stands = split (is_spread T.sizes.page_words object) spread whole
    where
      whole : is_spread T.sizes.page_words object ≡ false
          → LieInPages T (address (layout T) places.start o) (row_words T.sizes.page_words object)
      whole f =
          let i = words_of object - 1 in
          let low = last_low object in
          let u = M.lies.inside o i object r stands (in_table T.sizes.page_words object i low) in
          let b = in_pages (layout T).pages (places.spot o i).page (layout T).page_words (places.spot o i).offset u.0 u.1 in
          let e = (follow (layout T) words recs s places M o i object r stands f low).0 in
          let q = whole_row T.sizes.page_words object f in
          omega (arith, b, e, low, q)

      spread : is_spread T.sizes.page_words object ≡ true
          → LieInPages T (address (layout T) places.start o) (row_words T.sizes.page_words object)
      spread sp =
          let over = M.lies.spread o object r stands sp in
          let d = spread_data T.sizes.page_words object sp in
          let j = data_pages T.sizes.page_words object - 1 in
          let m : words_of object + j < table_words T.sizes.page_words object = omega (arith, d) in
          let e = (over.1).laid (words_of object + j) m ∙ number_spot T.sizes.page_words object over.0 j in
          let t = M.lies.inside o (words_of object + j) object r stands m in
          let b = in_pages T.sizes.pages (places.spot o (words_of object + j)).page T.sizes.page_words
          (places.spot o (words_of object + j)).offset t.0 t.1 in
          let f = (over.1).begins in
          let p : (places.spot o (words_of object + j)).page * T.sizes.page_words ≡ (places.start o).page * T.sizes.page_words =
          ap (λ (y : Spot). y.page * T.sizes.page_words) e ∙ ap (λ (y : Spot). y.page * T.sizes.page_words) (sym f) in
          let q : (places.spot o (words_of object + j)).offset ≡ words_before object + j = ap Spot.offset e in
          let q0 : (places.start o).offset ≡ 0 = ap Spot.offset f in
          let w = spread_row T.sizes.page_words object sp in
          omega (arith, b, p, q, q0, w, d)

  module _ (addresses : List ℕ) (addressed : (o a : ℕ) → slice_get addresses o ≡ Some a → a ≡ address (layout T) places.start o)
      (kinds : List «Type») (fits : MemoryFits T.code kinds s.plain.memory) where
    pub leads_in : (ty : «Type») (v : Value) (word : ℕ) → HasKind kinds ty v → LeadsToLive s v → Shows addresses v word → Points T ty word
    leads_in ty (value.Int i) word kind live shows at like e = absurd (true≢false (sym like ∙ ap is_pointer_like kind))
    leads_in ty (value.Bool b) word kind live shows at like e = absurd (true≢false (sym like ∙ ap is_pointer_like kind))
    leads_in ty value.Nil word kind live shows at like e = absurd (omega (arith, shows, e))
    leads_in ty (value.Object o) word kind live shows at like e =
        let x = object_of T.code kinds s.plain.memory fits o ty kind.0 in
        let large = large_enough T.sizes.page_words T.code.structs kinds ty x.0 x.2 in
        let r = live o refl in
        let lies = lies_in o x.0 r.0 (record { there = x.1; owner = r.1; live = r.2 }) in
        let a = addressed o shows.0 shows.1 in
        let w = shows.2 in
        omega (arith, large, lies, a, w, e)

-- ---- the value of an action has the type of its variable

pub typed_at : (code : Code) (frame : TacFrame) (fn : CodeFn) (d : ℕ) (ty : «Type») → function_at code frame ≡ Some fn
    → VariableHasType (erased_fn fn) d ty → destination_type (erased code) frame (Some d) ≡ ty
typed_at code frame fn d ty is typed =
    ap (λ o. variable_type o d) (slice_get-map erased_fn code.functions frame.function ∙ ap (option_map erased_fn) is)
    ∙ get_or_from_slice_get (erased_fn fn).variables d ty _ typed

module _ {T : Setup} {g : ℕ} {c : Record} (x : Situation T g c) (to : Option ℕ) (act : Action) (from removes : List ℕ)
    (a : IsAtOp T.code c (Do to act from removes)) (mem : Heap) (v : Value)
    (does : performed T.code.structs act (destination_type (erased T.code) (operands.b x to act from removes a).frame to)
    (operand_values (operands.b x to act from removes a).frame from) x.s.plain.memory ≡ Some (DoesSo mem v)) where
  abbrev frame : TacFrame
  frame = (operands.b x to act from removes a).frame

  abbrev before : List «Type»
  before = (operands.b x to act from removes a).kinds

  abbrev types : List «Type»
  types = (operands.rule x to act from removes a).0

  fn_is : function_at T.code frame ≡ Some a.fn
  fn_is = ap (code_function T.code) (sym (operands.b x to act from removes a).newest.alike.function) ∙ a.in_fn

  have : HaveKinds before types (operand_values frame from)
  have =
      let top : FrameFits T.code before frame = (operands.b x to act from removes a).typed.0 in
      let same : a.fn ≡ top.0 = same_Some a.fn top.0 (sym fn_is ∙ top.1) in
      vars_kinds before (erased_fn a.fn) frame
      (subst (λ (f : CodeFn). HaveKinds before (erased_fn f).variables frame.variables) (sym same) top.2)
      from types (operands.rule x to act from removes a).1

  abbrev HasItsKind : List «Type» → Option ℕ → Type 0
  HasItsKind kinds None = Unit {0}
  HasItsKind kinds (Some d) = HasKind kinds (destination_type (erased T.code) frame (Some d)) v

  typed : (q : Option ℕ) → DoFits (erased T.code) (erased_fn a.fn) q act types
      → performed T.code.structs act (destination_type (erased T.code) frame q) (operand_values frame from) x.s.plain.memory ≡ Some (DoesSo mem v)
      → (kinds : List «Type») × MemoryFits T.code kinds mem × HasItsKind kinds q
  typed None fits is =
      let p : Performed T.code before None (DoesSo mem v) =
      subst (Always (Performed T.code before None)) is
      (takes T.code before x.s.plain.memory (operands.b x to act from removes a).memory act (destination_type (erased T.code) frame None) types
      (operand_values frame from) fits have) in
      (p.0, p.2, tt)
  typed (Some d) fits is =
      let e : destination_type (erased T.code) frame (Some d) ≡ fits.0 = typed_at T.code frame a.fn d fits.0 fn_is fits.1 in
      let p : Performed T.code before (Some fits.0) (DoesSo mem v) =
      subst (Always (Performed T.code before (Some fits.0)))
      (ap (λ (ty : «Type»). performed T.code.structs act ty (operand_values frame from) x.s.plain.memory) (sym e) ∙ is)
      (returns T.code before x.s.plain.memory (operands.b x to act from removes a).memory act fits.0 types (operand_values frame from)
      fits.2 have) in
      (p.0, p.2, subst (λ (ty : «Type»). HasKind p.0 ty v) (sym e) p.3)

  -- and so it points into the pages, in an image of a state with the memory after it
  module _ (words : List ℕ) (recs : List MemoryRec) (s : RegionState) (places : Where) (M : StateImage (layout T) words recs s places)
      (addresses : List ℕ) (addressed : (o k : ℕ) → slice_get addresses o ≡ Some k → k ≡ address (layout T) places.start o)
      (memory : s.plain.memory ≡ mem) (word : ℕ) (live : LeadsToLive s v) (shows : Shows addresses v word) where
    by_type : (q : Option ℕ) → (kinds : List «Type») → MemoryFits T.code kinds mem → HasItsKind kinds q
        → Points T (destination_type (erased T.code) frame q) word
    by_type None kinds fits has = λ at like e. absurd (true≢false (sym like))
    by_type (Some d) kinds fits has =
        leads_in T words recs s places M addresses addressed kinds (subst (MemoryFits T.code kinds) (sym memory) fits)
        (destination_type (erased T.code) frame (Some d)) v word has live shows

    pub gives_points : Points T (target_type T a.w to) word
    gives_points =
        let t = typed to (operands.rule x to act from removes a).2 does in
        subst (λ (ty : «Type»). Points T ty word)
        (sym (type_alike (erased T.code) frame a.w (operands.b x to act from removes a).newest.alike to))
        (by_type to t.0 t.1 t.2)
