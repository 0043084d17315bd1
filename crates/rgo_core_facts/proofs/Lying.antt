-- Where the operands of a record's next instruction point, and so where the words are that it accesses. The image has every pointer lead
-- to a live object of its type. The rest is how many words such an object has at least.
use Rattle.std.proofs.Common.{◌≡◌, ℕ, suc, ◌+◌, ◌*◌, ◌/◌, ◌<◌, ◌≤◌, List, [], ◌∷◌, Option, Some, None, length, map, option_map, replicate, slice_get, slice_index, refl, ap, sym, subst, ◌∙◌, arith, Contains}
use Rattle.std.proofs.lemmas.List.{length-map, length-replicate}
use Rattle.std.proofs.lemmas.Option.{none-some, same_Some, slice_get-map, slice_get_within}
use Rattle.rgo_sound.specs.Code.Code.{CodeFn, CodeOp}
use Rattle.rgo_sound.specs.Code.Erasure.{erased, erased_fn, erased_op}
use Rattle.rgo_sound.specs.Code.Exists.{declared_in_code}
use Rattle.rgo_sound.specs.Code.Types.{DoFits, VariableHasType}
use Rattle.rgo_sound.specs.RegionMachine.Owed.{code_function}
use Rattle.rgo_sound.proofs.Places.{contains_here}
use Rattle.rgo_sound.proofs.Progress.{live_of}
use Rattle.rgo_sound.proofs.types.Steps.{var_kind}
use Rattle.rgo_sound.proofs.Tests.{split}
use Rattle.rgo_sound.specs.Memory.Memory.{Object, SliceObject, StructObject}
use Rattle.rgo_sound.specs.Memory.Values.{zero_of}
use Rattle.rgo_sound.specs.Memory.declared.values.Value.TheVariants as value
use Rattle.rgo_sound.specs.RegionMachine.Objects.{is_spread}
use Rattle.rgo_sound.specs.Types.{HasKind}
use Rattle.rgo_sound.specs.Tac.Code.{Tac, TacFn}
use Rattle.rgo_sound.specs.Tac.Flow.{reads}
use Rattle.rgo_sound.specs.Tac.Frames.{value_at}
use Rattle.rgo_sound.specs.Typed.declared.actions.Action.TheVariants as action
use Rattle.rgo_sound.specs.Typed.declared.programs.Struct.{Struct}
use Rattle.rgo_sound.specs.Typed.declared.programs.Variable.{Variable}
use Rattle.rgo_sound.specs.Typed.declared.types.Base.TheVariants as base
use Rattle.rgo_sound.specs.Typed.declared.types.Type.{«Type»}
use Rattle.rgo_sound.specs.WellFormed.TypeRules.{HasField as FieldOf, chan_of, pointer_to, slice_of}
use Rattle.rgo_core.specs.Frames.steps.Before.{IsBefore}
use Rattle.rgo_core.specs.Frames.shown.WordFrames.{frame_word}
use Rattle.rgo_core.specs.Memory.Words.{base as cells_from}
use Rattle.rgo_core.specs.ties.AtChannels.{Operates}
use Rattle.rgo_core.specs.moves.Cells.{IsInSlice, IsSpreadOut, LoadsElement, LoadsField as AtLoad, StoresElement, StoresField as AtStore}
use Rattle.rgo_core.specs.ties.Bounds.{LieInPages, Points, row_words, slice_words, struct_words}
use Rattle.rgo_core.specs.Core.{Situation, Setup, layout}
use Rattle.rgo_core.specs.ties.Links.{BeforeLoad, BeforeStore, IsAtElement}
use Rattle.rgo_core.specs.Next.{IsAtOp}
use Rattle.rgo_core.specs.Records.{Record, memory_of}
use Rattle.rgo_core.proofs.channel_steps.AtChannels.{channel_type}
use Rattle.rgo_core.proofs.image.Bounds.{LeadsToLive, leads_in, spread_row, whole_row}
use Rattle.rgo_core.proofs.new_objects.MakesObject.{first_type}
use Rattle.rgo_core.proofs.steps.Operands as operands
use Rattle.rgo_core.proofs.image.Parts.{I}
use Rattle.rgo_core.proofs.accesses.Slices.{at_slice}
use Rattle.rgo_core.proofs.image.Standing.{at_instruction}
use Rattle.rgo_core_facts.specs.MemoryWords.{ChannelLies, ElementLies, GetExists, PointerHasField, IndexLies, LenLies, LoadLies, LoadsField, OperandPoints, PagesInTable, SetExists, SliceLies, StoreLies, StoresField}
use Rattle.rgo_core_facts.proofs.DataPages.{less, number_in_row, row_whole}

-- ---- operands

module _ {T : Setup} {g : ℕ} {c : Record} (x : Situation T g c) {op : CodeOp} (a : IsAtOp T.code c op) (v : ℕ) (ty : «Type»)
    (read : Contains (reads (erased_op op)) v) (typed : VariableHasType (erased_fn a.fn) v ty) where
  abbrev b : IsBefore T.code (I x).places.slot (I x).addresses x.s g c.frame a.w a.ws a.instr
  b = (at_instruction x a).before

  read_there : Contains (reads (erased_op a.instr.op)) v
  read_there = subst (λ (o : CodeOp). Contains (reads (erased_op o)) v) (sym a.is) read

  kind : HasKind b.kinds ty (value_at b.frame v)
  kind =
      let fits = b.typed.0 in
      let same : a.fn ≡ fits.0 = same_Some a.fn fits.0 (sym a.in_fn ∙ (ap (code_function T.code) b.newest.alike.function ∙ fits.1)) in
      var_kind b.kinds (erased_fn fits.0) b.frame fits.2 v ty (subst (λ (f : CodeFn). VariableHasType (erased_fn f) v ty) same typed)

  live : LeadsToLive x.s (value_at b.frame v)
  live o e = let s = b.staked v o read_there e in (s.0, s.1, live_of x.s b.h s.0 s.2)

  pub points : Points T ty (frame_word a.w v)
  points = leads_in T x.words (map memory_of x.recs) x.s (I x).places (I x).memory (I x).addresses (I x).addressed b.kinds b.memory ty
      (value_at b.frame v) (frame_word a.w v) kind live (b.shown v read_there)

pub operand_points : OperandPoints
operand_points T g c x op a v ty read typed = points x a v ty read typed

pub pages_in_table : PagesInTable
pages_in_table T address n lies = omega (arith, lies)

-- ---- fields

-- a field that a struct type has
field_there : (s : Option Struct) (fields : List «Type») (k : ℕ) (t : «Type») → option_map (λ (s : Struct). s.fields) s ≡ Some fields
    → slice_get fields k ≡ Some t → (struct : Struct) × (s ≡ Some struct) × (k < length struct.fields)
field_there None fields k t e at = absurd (none-some fields e)
field_there (Some s) fields k t e at =
    (s, refl, slice_get_within s.fields k t (ap (λ (l : List «Type»). slice_get l k) (same_Some s.fields fields e) ∙ at))

field_of : (T : Setup) (c : Record) {op : CodeOp} (a : IsAtOp T.code c op) (p n k : ℕ) (t : «Type») → VariableHasType (erased_fn a.fn) p (pointer_to n)
    → FieldOf (declared_in_code (erased T.code)) n k t → PointerHasField T c a p k
field_of T c a p n k t typed f =
    let s = field_there (slice_get T.code.structs n) f.0 k t (sym (slice_get-map (λ (s : Struct). s.fields) T.code.structs n) ∙ f.1) f.2 in
    record { number = n; typed = typed; struct = s.0; there = s.1; low = s.2 }

pub loads_field : LoadsField
loads_field T g c x d k p removes a =
    let r = operands.rule x (Some d) (action.Load k) (p ∷ []) removes a in
    let t = r.2.2 in
    field_of T c a p t.0 k r.2.0 (first_type (erased_fn a.fn) p [] r.0 (pointer_to t.0) [] t.1 r.1) t.2

pub stores_field : StoresField
stores_field T g c x k p q removes a =
    let r = operands.rule x None (action.Store k) (p ∷ q ∷ []) removes a in
    let t = r.2 in
    field_of T c a p t.0 k t.1 (first_type (erased_fn a.fn) p (q ∷ []) r.0 (pointer_to t.0) (t.1 ∷ []) t.2 r.1) t.3

pub same_number : (m n : ℕ) → pointer_to m ≡ pointer_to n → m ≡ n
same_number m n e = let b : base.Pointer m ≡ base.Pointer n = ap (λ (t : «Type»). t.base) e in cc b

-- the struct type of a variable is one
same_fields : (T : Setup) (c : Record) {op : CodeOp} (a : IsAtOp T.code c op) (p k number : ℕ) (struct : Struct) (f : PointerHasField T c a p k)
    → VariableHasType (erased_fn a.fn) p (pointer_to number) → slice_get T.code.structs number ≡ Some struct → k < length struct.fields
same_fields T c a p k number struct f typed there =
    let n = same_number f.number number (same_Some (pointer_to f.number) (pointer_to number) (sym f.typed ∙ typed)) in
    let s = same_Some f.struct struct (sym f.there ∙ (ap (slice_get T.code.structs) n ∙ there)) in
    let l = f.low in
    let e = ap (λ (s : Struct). length s.fields) s in
    omega (arith, l, e)

-- as many words as follow the address of a struct, by its type
row_of : (T : Setup) (number : ℕ) (struct : Struct) → slice_get T.code.structs number ≡ Some struct
    → struct_words T.sizes.page_words (slice_get T.code.structs number) ≡ row_words T.sizes.page_words (StructObject (map zero_of struct.fields))
row_of T number struct there = ap (struct_words T.sizes.page_words) there

module _ (T : Setup) (c : Record) {op : CodeOp} (a : IsAtOp T.code c op) (p k address word : ℕ) (f : PointerHasField T c a p k) (number : ℕ) (struct : Struct)
    (typed : VariableHasType (erased_fn a.fn) p (pointer_to number)) (there : slice_get T.code.structs number ≡ Some struct)
    (points : Points T (pointer_to number) word) (is : word ≡ suc address) where
  abbrev object : Object
  object = StructObject (map zero_of struct.fields)

  follows : address + row_words T.sizes.page_words object ≤ T.sizes.pages * T.sizes.page_words
  follows =
      let l : address + struct_words T.sizes.page_words (slice_get T.code.structs number) ≤ T.sizes.pages * T.sizes.page_words =
      points address refl is in
      let e = row_of T number struct there in
      omega (arith, l, e)

  low : k < length (map zero_of struct.fields)
  low =
      let l = same_fields T c a p k number struct f typed there in
      let m = length-map struct.fields zero_of in
      omega (arith, l, m)

  -- in a struct that fits a page: the words up to the field
  field_lies : length struct.fields ≤ T.sizes.page_words → LieInPages T address (suc k)
  field_lies fits =
      let l = follows in
      let i = low in
      let m = length-map struct.fields zero_of in
      let w = row_whole T.sizes.page_words object (omega (arith, fits, i, m)) in
      omega (arith, l, i, w)

  -- in a spread struct: those up to the number of the field's data page
  number_lies : T.sizes.page_words < length struct.fields → LieInPages T address (suc (0 + k / T.sizes.page_words))
  number_lies spread =
      let l = follows in
      let m = length-map struct.fields zero_of in
      let n = number_in_row T.sizes.page_words object 0 k (less T.sizes.page_words _ (omega (arith, spread, m))) (omega arith) low in
      omega (arith, l, n)

pub load_lies : LoadLies
load_lies T g c x d k p address removes a is whole =
    field_lies T c a p k address (frame_word a.w p) (loads_field T g c x d k p removes a) whole.number whole.struct whole.typed whole.there
    (points x a p (pointer_to whole.number) (contains_here p []) whole.typed) is whole.fits

pub store_lies : StoreLies
store_lies T g c x k p q address removes a is whole =
    field_lies T c a p k address (frame_word a.w p) (stores_field T g c x k p q removes a) whole.number whole.struct whole.typed whole.there
    (points x a p (pointer_to whole.number) (contains_here p (q ∷ [])) whole.typed) is whole.fits

-- ---- slices

pub len_lies : LenLies
len_lies T g c x d p address removes a is =
    let r = operands.rule x (Some d) action.Len (p ∷ []) removes a in
    let t = r.2.2 in
    points x a p (slice_of t.0) (contains_here p []) (first_type (erased_fn a.fn) p [] r.0 (slice_of t.0) [] t.1 r.1) address refl is

-- the words that follow the address of a slice with n elements, if it fits a page
whole_slice : (T : Setup) (n : ℕ) → suc n ≤ T.sizes.page_words → slice_words T n ≡ suc n
whole_slice T n fits =
    let e = length-replicate n value.Nil in
    let w = row_whole T.sizes.page_words (SliceObject (replicate n value.Nil)) (omega (arith, fits, e)) in
    omega (arith, w, e)

-- it has a word before its elements
some_word : (T : Setup) (n : ℕ) → 1 ≤ slice_words T n
some_word T n = split (is_spread T.sizes.page_words (SliceObject (replicate n value.Nil)))
    (λ spread.
    let r = spread_row T.sizes.page_words (SliceObject (replicate n value.Nil)) spread in
    omega (arith, r))
    (λ whole. let r = whole_row T.sizes.page_words (SliceObject (replicate n value.Nil)) whole in omega (arith, r))

pub element_lies : ElementLies
element_lies T g c x address here =
    let s = at_slice x address here in
    let l = s.lies in
    let o = some_word T (slice_index x.words (cells_from (layout T) + address)) in
    omega (arith, l, o)

pub slice_lies : SliceLies
slice_lies T address n i lies fits low = let e = whole_slice T n fits in omega (arith, lies, e, low)

-- the number of the data page that has an element
element_number_lies : {T : Setup} {g : ℕ} {c : Record} (x : Situation T g c) (address i : ℕ) → IsAtElement T.code c address
    → (inside : IsInSlice c address i) → IsSpreadOut T inside → LieInPages T address (suc (1 + i / T.sizes.page_words))
element_number_lies {T} {g} {c} x address i here inside spread =
    let k = (x.core.links g c x.is_c).knows inside.measured inside.read in
    let many : slice_index x.words (cells_from (layout T) + address) ≡ inside.measured.elements =
    ap (λ (n : ℕ). slice_index x.words (cells_from (layout T) + n)) (sym inside.its) ∙ k.still inside.now in
    let lies = subst (λ (n : ℕ). LieInPages T address (slice_words T n)) many (at_slice x address here).lies in
    let n = inside.measured.elements in
    let e = length-replicate n value.Nil in
    let within = inside.within in
    let m = number_in_row T.sizes.page_words (SliceObject (replicate n value.Nil)) 1 i (less T.sizes.page_words _ (omega (arith, spread, e)))
    (omega arith) (omega (arith, within, e)) in
    omega (arith, lies, m)

-- ---- page numbers

lies_at : (T : Setup) (address before cell b i : ℕ) → before ≡ b → cell ≡ i → LieInPages T address (suc (b + i / T.sizes.page_words))
    → LieInPages T address (suc (before + cell / T.sizes.page_words))
lies_at T address before cell b i eb ei l =
    subst (λ (n : ℕ). LieInPages T address (suc (before + n / T.sizes.page_words))) (sym ei)
    (subst (λ (n : ℕ). LieInPages T address (suc (n + i / T.sizes.page_words))) (sym eb) l)

pub index_lies : IndexLies
index_lies T g c x address before cell (AtLoad d k p removes a is spread eb ei) =
    lies_at T address before cell 0 k eb ei
    (number_lies T c a p k address (frame_word a.w p) (loads_field T g c x d k p removes a) spread.number spread.struct spread.typed spread.there
    (points x a p (pointer_to spread.number) (contains_here p []) spread.typed) is spread.spread)
index_lies T g c x address before cell (AtStore k p q removes a is spread eb ei) =
    lies_at T address before cell 0 k eb ei
    (number_lies T c a p k address (frame_word a.w p) (stores_field T g c x k p q removes a) spread.number spread.struct spread.typed spread.there
    (points x a p (pointer_to spread.number) (contains_here p (q ∷ [])) spread.typed) is spread.spread)
index_lies T g c x address before cell (LoadsElement d p q removes a is inside spread eb ei) =
    lies_at T address before cell 1 (frame_word a.w q) eb ei
    (element_number_lies x address (frame_word a.w q) (BeforeLoad d p q removes a is) inside spread)
index_lies T g c x address before cell (StoresElement p q r removes a is inside spread eb ei) =
    lies_at T address before cell 1 (frame_word a.w q) eb ei
    (element_number_lies x address (frame_word a.w q) (BeforeStore p q r removes a is) inside spread)

-- ---- package variables

declared : (variables : List Variable) (k : ℕ) (t : «Type») → slice_get (map (λ (v : Variable). v.ty) variables) k ≡ Some t
    → k < length variables
declared variables k t e =
    let l = slice_get_within (map (λ (v : Variable). v.ty) variables) k t e in
    let m = length-map variables (λ (v : Variable). v.ty) in
    omega (arith, l, m)

get_declared : (code : Tac) (f : TacFn) (to : Option ℕ) (k : ℕ) (tys : List «Type») → DoFits code f to (action.Get k) tys
    → k < length code.variables
get_declared code f None k tys fits = absurd fits
get_declared code f (Some d) k tys fits = let r = fits.2 in declared code.variables k fits.0 r.1

set_declared : (code : Tac) (f : TacFn) (to : Option ℕ) (k : ℕ) (tys : List «Type») → DoFits code f to (action.Set k) tys
    → k < length code.variables
set_declared code f None k tys fits = declared code.variables k fits.0 fits.2
set_declared code f (Some d) k tys fits = absurd fits.2

pub get_exists : GetExists
get_exists T g c x to k from removes a =
    let r = operands.rule x to (action.Get k) from removes a in get_declared (erased T.code) (erased_fn a.fn) to k r.0 r.2

pub set_exists : SetExists
set_exists T g c x to k from removes a =
    let r = operands.rule x to (action.Set k) from removes a in set_declared (erased T.code) (erased_fn a.fn) to k r.0 r.2

-- ---- channels

pub channel_lies : ChannelLies
channel_lies T g c x to act channel address others removes a of_channel is =
    let o : Operates T c to act others _ = record {
      channel = channel;
      removes = removes;
      here = a;
      of_channel = of_channel;
      address = address;
      points = is;
      lies = refl;
    } in
    let t = channel_type x o in
    points x a channel (chan_of t.0) (contains_here channel others) t.1 address refl is
