-- What follows from the types of checked code for the operands of loads and stores. The invariant of region safety has the types
-- of all values. The rest is a case for each action.
use Rattle.std.proofs.Common.{◌≡◌, ℕ, List, [], ◌∷◌, map, length, pos, arith, Option, Some, None, slice_get, ap, sym, subst, ◌∙◌}
use Rattle.std.proofs.lemmas.Option.{same_Some}
use Rattle.rgo_sound.specs.Typed.declared.actions.Action.{Action}
use Rattle.rgo_sound.specs.Typed.declared.actions.Action.TheVariants as action
use Rattle.rgo_sound.specs.Typed.declared.programs.Struct.{Struct}
use Rattle.rgo_sound.specs.Typed.declared.programs.Variable.{Variable}
use Rattle.rgo_sound.specs.Typed.declared.types.Type.{«Type»}
use Rattle.rgo_sound.specs.WellFormed.TypeRules.{int, pointer_to, slice_of, chan_of, HasField}
use Rattle.rgo_sound.specs.Code.Checked.{IsChecked}
use Rattle.rgo_sound.specs.Code.Code.{Code, CodeFn, Do}
use Rattle.rgo_sound.specs.Code.Erasure.{erased, erased_fn, erased_op}
use Rattle.rgo_sound.specs.Code.Exists.{declared_in_code}
use Rattle.rgo_sound.specs.Code.Types.{DoFits, IsWellTypedOp}
use Rattle.rgo_sound.specs.Memory.Elements.{element_in, length_in, or_out_of_range}
use Rattle.rgo_sound.specs.Memory.Fields.{field_value, or_nil}
use Rattle.rgo_sound.specs.Memory.Memory.{Object, StructObject, SliceObject, Channel}
use Rattle.rgo_sound.specs.Memory.declared.values.Value.{Value}
use Rattle.rgo_sound.specs.Memory.declared.values.Value.TheVariants as value
use Rattle.rgo_sound.specs.RegionMachine.States.{RegionState}
use Rattle.rgo_sound.proofs.Places.{get_some}
use Rattle.rgo_sound.proofs.types.Actions.{get_kinds, object_of, same_pointer}
use Rattle.rgo_sound.proofs.types.Steps.{types, vars_kinds}
use Rattle.rgo_sound.specs.Good.{AllGood}
use Rattle.rgo_sound.specs.Types.{FrameFits, FramesHaveKinds, HaveKinds, MemoryFits, ObjectFits}
use Rattle.rgo_core_memory.specs.Accesses.{Before}
use Rattle.rgo_core_memory.specs.Laws.{MemoryLoadLaw, LenLaw, GetLaw, StoreLaw, SetLaw, AtLaw, PutLaw}
use Rattle.rgo_core_memory.specs.Image.{word_of_value}
use Rattle.rgo_core_memory.proofs.accesses.Accesses.{store_keeps, set_keeps, put_keeps, load_reads, len_reads, get_reads, at_reads}
use Rattle.rgo_core_memory.proofs.Rows.{below}
use Rattle.rgo_core_memory.proofs.image.Stepped.{map_get}

-- the operands of an action have the types that it takes
record Fit (code : Code) (s : RegionState) (to : Option ℕ) (a : Action) (values : List Value) : Type 0 where
  kinds : List «Type»
  memory : MemoryFits code kinds s.plain.memory
  fn : CodeFn
  operands : List «Type»
  have : HaveKinds kinds operands values
  fits : DoFits (erased code) (erased_fn fn) to a operands

fit : (code : Code) (s : RegionState) (g : ℕ) (a : Action) (values : List Value) → IsChecked code → AllGood code s
    → (b : Before code s g a values) → Fit code s b.to a values
fit code s g a values checked all b =
    let typed = all.good.typed in
    let frames : FramesHaveKinds code typed.kinds (b.frame ∷ b.callers) = typed.frames g (b.frame ∷ b.callers) b.at in
    let top : FrameFits code typed.kinds b.frame = frames.0 in
    let rule : IsWellTypedOp (erased code) (erased_fn top.0) (erased_op
    (Do b.to a b.from b.removes)) = types code checked b.frame top.0 b.instr top.1 b.cur (Do b.to a b.from b.removes) b.is in
    record {
      kinds = typed.kinds;
      memory = typed.memory;
      fn = top.0;
      operands = rule.0;
      have = subst (HaveKinds typed.kinds rule.0) b.operands (vars_kinds typed.kinds (erased_fn top.0) b.frame top.2 b.from rule.0 rule.1);
      fits = rule.2;
    }

-- a struct is there, with its fields
struct_of : (code : Code) (s : RegionState) (kinds : List «Type») (m : MemoryFits code kinds s.plain.memory) (n o k : ℕ) (t : «Type»)
    → slice_get kinds o ≡ Some (pointer_to n)
    → HasField (declared_in_code (erased code)) n k t → (cells : List Value) × (slice_get s.plain.memory.heap o ≡ Some (StructObject cells))
    × (v : Value) × (slice_get cells k ≡ Some v)
struct_of code s kinds m n o k t kind field = let x = object_of code kinds s.plain.memory m o (pointer_to n) kind in go x.0 x.1 x.2
  where
    go : (object : Object) → slice_get s.plain.memory.heap o ≡ Some object → ObjectFits code.structs kinds (pointer_to n) object
        → (cells : List Value) × (slice_get s.plain.memory.heap o ≡ Some (StructObject cells)) × (v : Value) × (slice_get cells k ≡ Some v)
    go (StructObject cells) e f =
        let same : n ≡ f.0 = same_pointer n f.0 f.1 in
        let there : slice_get (map (λ (s : Struct). s.fields) code.structs) n ≡ Some ((f.2).fields) = map_get (λ
        (s : Struct). s.fields) code.structs n f.2 (ap (slice_get code.structs) same ∙ f.3) in
        let fields : field.0 ≡ (f.2).fields = same_Some field.0 ((f.2).fields) (sym field.1 ∙ there) in
        let v = get_kinds kinds ((f.2).fields) cells k t f.4 (subst (λ (l : List «Type»). slice_get l k ≡ Some t) fields field.2) in
        (cells, e, v.0, v.1)
    go (SliceObject cells) e f = let y : pointer_to n ≡ slice_of f.0 = f.1 in let w = ap (λ (t : «Type»). t.layers) y in cc w
    go (Channel capacity queue closed) e f = let y : pointer_to n ≡ chan_of f.0 = f.1 in let w = ap (λ (t : «Type»). t.layers) y in cc w

slice_of_kind : (code : Code) (s : RegionState) (kinds : List «Type») (m : MemoryFits code kinds s.plain.memory) (u : «Type») (o : ℕ)
    → slice_get kinds o ≡ Some (slice_of u)
    → (cells : List Value) × (slice_get s.plain.memory.heap o ≡ Some (SliceObject cells))
slice_of_kind code s kinds m u o kind = let x = object_of code kinds s.plain.memory m o (slice_of u) kind in go x.0 x.1 x.2
  where
    layer : (t : «Type») → slice_of u ≡ chan_of t → ⊥
    layer t y = let w = ap (λ (t : «Type»). t.layers) y in cc w

    go : (object : Object) → slice_get s.plain.memory.heap o ≡ Some object → ObjectFits code.structs kinds (slice_of u) object
        → (cells : List Value) × (slice_get s.plain.memory.heap o ≡ Some (SliceObject cells))
    go (StructObject cells) e f = let y : slice_of u ≡ pointer_to f.0 = f.1 in let w = ap (λ (t : «Type»). t.layers) y in cc w
    go (SliceObject cells) e f = (cells, e)
    go (Channel capacity queue closed) e f = absurd (layer f.0 f.1)

one_kind : (kinds : List «Type») (ty : «Type») (operands : List «Type») (o : ℕ) (vs : List Value) (more : List «Type») → operands ≡ ty ∷ more
    → HaveKinds kinds operands (value.Object o ∷ vs)
    → slice_get kinds o ≡ Some ty
one_kind kinds ty operands o vs more e h = (subst (λ (l : List «Type»). HaveKinds kinds l (value.Object o ∷ vs)) e h).0.0

-- the struct that a load reads, and its field
pub loads_from : (code : Code) (s : RegionState) (g o n : ℕ) → IsChecked code → AllGood code s → Before code s g (action.Load n) (value.Object o ∷ [])
    → (cells : List Value) × (slice_get s.plain.memory.heap o ≡ Some (StructObject cells)) × (u : Value) × (slice_get cells n ≡ Some u)
loads_from code s g o n checked all b =
    let f = fit code s g (action.Load n) (value.Object o ∷ []) checked all b in go b.to f.kinds f.memory f.fn f.operands f.have f.fits
  where
    go : (to : Option ℕ) (kinds : List «Type») → MemoryFits code kinds s.plain.memory → (fn : CodeFn) (operands : List «Type»)
        → HaveKinds kinds operands (value.Object o ∷ [])
        → DoFits (erased code) (erased_fn fn) to (action.Load n) operands
        → (cells : List Value) × (slice_get s.plain.memory.heap o ≡ Some (StructObject cells)) × (u : Value) × (slice_get cells n ≡ Some u)
    go None kinds m fn operands h d = absurd d
    go (Some q) kinds m fn operands h d = let r = d.2 in struct_of code s kinds m r.0 o n d.0 (one_kind kinds
        (pointer_to r.0) operands o [] [] r.1 h) r.2

-- the struct that a store writes, and its field
pub stores_to : (code : Code) (s : RegionState) (g o n : ℕ) (v : Value) → IsChecked code → AllGood code s
    → Before code s g (action.Store n) (value.Object o ∷ v ∷ [])
    → (cells : List Value) × (slice_get s.plain.memory.heap o ≡ Some (StructObject cells)) × (u : Value) × (slice_get cells n ≡ Some u)
stores_to code s g o n v checked all b =
    let f = fit code s g (action.Store n) (value.Object o ∷ v ∷ []) checked all b in go b.to f.kinds f.memory f.fn f.operands f.have f.fits
  where
    go : (to : Option ℕ) (kinds : List «Type») → MemoryFits code kinds s.plain.memory → (fn : CodeFn) (operands : List «Type»)
        → HaveKinds kinds operands (value.Object o ∷ v ∷ [])
        → DoFits (erased code) (erased_fn fn) to (action.Store n) operands
        → (cells : List Value) × (slice_get s.plain.memory.heap o ≡ Some (StructObject cells)) × (u : Value) × (slice_get cells n ≡ Some u)
    go None kinds m fn operands h d = struct_of code s kinds m d.0 o n d.1 (one_kind kinds (pointer_to d.0) operands o (v ∷ []) (d.1 ∷ []) d.2 h) d.3
    go (Some q) kinds m fn operands h d = absurd d.2

pub store_law : StoreLaw
store_law code z words recs s t g o n v places checked all k e b =
    let f = fit code s g (action.Store n) (value.Object o ∷ v ∷ []) checked all b in
    let x = go b.to f.kinds f.memory f.fn f.operands f.have f.fits in
    store_keeps code z words recs s t g o n v x.0 places k e b x.1 (below x.0 n x.2 x.3)
  where
    go : (to : Option ℕ) (kinds : List «Type») → MemoryFits code kinds s.plain.memory → (fn : CodeFn) (operands : List «Type»)
        → HaveKinds kinds operands (value.Object o ∷ v ∷ [])
        → DoFits (erased code) (erased_fn fn) to (action.Store n) operands
        → (cells : List Value) × (slice_get s.plain.memory.heap o ≡ Some (StructObject cells)) × (u : Value) × (slice_get cells n ≡ Some u)
    go None kinds m fn operands h d = struct_of code s kinds m d.0 o n d.1 (one_kind kinds (pointer_to d.0) operands o (v ∷ []) (d.1 ∷ []) d.2 h) d.3
    go (Some q) kinds m fn operands h d = absurd d.2

pub load_law : MemoryLoadLaw
load_law code z words recs s t g o n places checked all k e b =
    let f = fit code s g (action.Load n) (value.Object o ∷ []) checked all b in
    let x = go b.to f.kinds f.memory f.fn f.operands f.have f.fits in
    let y = load_reads code z words recs s t g o n x.2 x.0 places k e b x.1 x.3 in
    (y.0 ∙ ap (word_of_value z places) (sym (ap (λ (q : Option Object). field_value q n) x.1 ∙ ap or_nil x.3)), y.1)
  where
    go : (to : Option ℕ) (kinds : List «Type») → MemoryFits code kinds s.plain.memory → (fn : CodeFn) (operands : List «Type»)
        → HaveKinds kinds operands (value.Object o ∷ [])
        → DoFits (erased code) (erased_fn fn) to (action.Load n) operands
        → (cells : List Value) × (slice_get s.plain.memory.heap o ≡ Some (StructObject cells)) × (u : Value) × (slice_get cells n ≡ Some u)
    go None kinds m fn operands h d = absurd d
    go (Some q) kinds m fn operands h d = let r = d.2 in struct_of code s kinds m r.0 o n d.0 (one_kind kinds
        (pointer_to r.0) operands o [] [] r.1 h) r.2

pub len_law : LenLaw
len_law code z words recs s t g o places checked all k e b =
    let f = fit code s g action.Len (value.Object o ∷ []) checked all b in
    let x = go b.to f.kinds f.memory f.fn f.operands f.have f.fits in
    let y = len_reads code z words recs s t g o x.0 places k e b x.1 in
    (y.0 ∙ ap (word_of_value z places) (sym (ap length_in x.1)), y.1)
  where
    go : (to : Option ℕ) (kinds : List «Type») → MemoryFits code kinds s.plain.memory → (fn : CodeFn) (operands : List «Type»)
        → HaveKinds kinds operands (value.Object o ∷ [])
        → DoFits (erased code) (erased_fn fn) to action.Len operands → (cells : List Value)
        × (slice_get s.plain.memory.heap o ≡ Some (SliceObject cells))
    go None kinds m fn operands h d = absurd d
    go (Some q) kinds m fn operands h d = let r = d.2 in slice_of_kind code s kinds m r.0 o (one_kind kinds (slice_of r.0) operands o [] [] r.1 h)

-- a package variable of that number is there
variable_there : (code : Code) (s : RegionState) (kinds : List «Type») (m : MemoryFits code kinds s.plain.memory) (n : ℕ) (t : «Type»)
    → slice_get (map (λ (v : Variable). v.ty) code.variables) n ≡ Some t → (v : Value) × (slice_get s.plain.memory.variables n ≡ Some v)
variable_there code s kinds m n t e = let x = get_kinds kinds (map (λ
    (v : Variable). v.ty) code.variables) s.plain.memory.variables n t m.variables e in (x.0, x.1)

pub set_law : SetLaw
set_law code z words recs s t g n v places checked all k e b =
    let f = fit code s g (action.Set n) (v ∷ []) checked all b in
    let x = go b.to f.kinds f.memory f.fn f.operands f.fits in
    set_keeps code z words recs s t g n v places k e b (below s.plain.memory.variables n x.0 x.1)
  where
    go : (to : Option ℕ) (kinds : List «Type») → MemoryFits code kinds s.plain.memory → (fn : CodeFn) (operands : List «Type»)
        → DoFits (erased code) (erased_fn fn) to (action.Set n) operands → (u : Value) × (slice_get s.plain.memory.variables n ≡ Some u)
    go None kinds m fn operands d = variable_there code s kinds m n d.0 d.2
    go (Some q) kinds m fn operands d = absurd d.2

pub get_law : GetLaw
get_law code z words recs s t g n places checked all k e b =
    let f = fit code s g (action.Get n) [] checked all b in
    let x = go b.to f.kinds f.memory f.fn f.operands f.fits in
    let y = get_reads code z words recs s t g n x.0 places k e b x.1 in
    (y.0 ∙ ap (word_of_value z places) (sym (ap or_nil x.1)), y.1)
  where
    go : (to : Option ℕ) (kinds : List «Type») → MemoryFits code kinds s.plain.memory → (fn : CodeFn) (operands : List «Type»)
        → DoFits (erased code) (erased_fn fn) to (action.Get n) operands → (u : Value) × (slice_get s.plain.memory.variables n ≡ Some u)
    go None kinds m fn operands d = absurd d
    go (Some q) kinds m fn operands d = variable_there code s kinds m n d.0 d.2.1

-- a slice has as many elements as its length says
as_many : (cells : List Value) (o : Option Object) (m : ℕ) → o ≡ Some (SliceObject cells) → length_in o ≡ value.Int (pos m) → m ≡ length cells
as_many cells o m e l = let q : value.Int (pos (length cells)) ≡ value.Int (pos m) = sym (ap length_in e)
    ∙ l in let r : length cells ≡ m = cc q in sym r

pub at_law : AtLaw
at_law code z words recs s t g o n m places checked all k e b long small =
    let f = fit code s g action.At (value.Object o ∷ value.Int (pos n) ∷ []) checked all b in
    let x = go b.to f.kinds f.memory f.fn f.operands f.have f.fits in
    let l = as_many x.0 (slice_get s.plain.memory.heap o) m x.1 long in
    let v = get_some x.0 n (omega (arith, l, small)) in
    let y = at_reads code z words recs s t g o n v.0 x.0 places k e b x.1 v.1 in
    (v.0, ap (λ (q : Option Object). element_in q (pos n)) x.1 ∙ ap or_out_of_range v.1, y.0, y.1)
  where
    go : (to : Option ℕ) (kinds : List «Type») → MemoryFits code kinds s.plain.memory → (fn : CodeFn) (operands : List «Type»)
        → HaveKinds kinds operands (value.Object o ∷ value.Int (pos n) ∷ [])
        → DoFits (erased code) (erased_fn fn) to action.At operands → (cells : List Value)
        × (slice_get s.plain.memory.heap o ≡ Some (SliceObject cells))
    go None kinds m fn operands h d = absurd d
    go (Some q) kinds m fn operands h d = slice_of_kind code s kinds m d.0 o (one_kind kinds (slice_of d.0) operands o (value.Int (pos n) ∷ [])
        (int ∷ []) d.2 h)

pub put_law : PutLaw
put_law code z words recs s t g o n m v places checked all k e b long small =
    let f = fit code s g action.Put (value.Object o ∷ value.Int (pos n) ∷ v ∷ []) checked all b in
    let x = go b.to f.kinds f.memory f.fn f.operands f.have f.fits in
    let l = as_many x.0 (slice_get s.plain.memory.heap o) m x.1 long in
    put_keeps code z words recs s t g o n v x.0 places k e b x.1 (omega (arith, l, small))
  where
    go : (to : Option ℕ) (kinds : List «Type») → MemoryFits code kinds s.plain.memory → (fn : CodeFn) (operands : List «Type»)
        → HaveKinds kinds operands (value.Object o ∷ value.Int (pos n) ∷ v ∷ [])
        → DoFits (erased code) (erased_fn fn) to action.Put operands → (cells : List Value)
        × (slice_get s.plain.memory.heap o ≡ Some (SliceObject cells))
    go None kinds m fn operands h d = slice_of_kind code s kinds m d.0 o (one_kind kinds (slice_of d.0) operands o (value.Int (pos n) ∷ v ∷ [])
        (int ∷ d.0 ∷ []) d.1 h)
    go (Some q) kinds m fn operands h d = absurd d.2
