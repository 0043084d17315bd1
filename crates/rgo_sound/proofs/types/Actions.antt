-- What each action does keeps the types of the memory, and returns a value of its type. The typing rules speak of the types of
-- variables; by `HasKind` these say which values there can be, and each action is then a case analysis on values. Objects are only
-- added, so their types are only extended (`Extends`).
use Rattle.std.proofs.Common.{◌≡◌, ℕ, zero, suc, ◌+◌, ◌<◌, ◌⊎◌, inl, inr, Bool, true, false, List, [], ◌∷◌, ◌++◌, map}
use Rattle.std.proofs.Common.{length, replicate, Option, Some, None, Result, Ok, Err, refl, sym, ap, ◌∙◌, subst, ℤ, pos}
use Rattle.std.proofs.Common.{negsuc, nat_eq, nat_lt, int_eq, if◌then◌else◌, arith, true≢false, slice_get, slice_set}
use Rattle.std.proofs.Common.{option_map, length-append}
use Rattle.std.proofs.lemmas.Option.{slice_get_within, same_Some, slice_get-map}
use Rattle.rgo_sound.proofs.Tests.{eq_of, split}
use Rattle.rgo_ast.specs.declared.ops.BinaryOp.{BinaryOp}
use Rattle.rgo_ast.specs.declared.ops.BinaryOp.TheVariants as binary
use Rattle.rgo_typed.specs.declared.actions.Action.{Action}
use Rattle.rgo_typed.specs.declared.actions.Action.TheVariants as action
use Rattle.rgo_typed.specs.declared.programs.Struct.{Struct}
use Rattle.rgo_typed.specs.declared.programs.Variable.{Variable}
use Rattle.rgo_typed.specs.declared.types.Base.{Base}
use Rattle.rgo_typed.specs.declared.types.Base.TheVariants as base
use Rattle.rgo_typed.specs.declared.types.Layer.{Layer}
use Rattle.rgo_typed.specs.declared.types.Layer.TheVariants as layer
use Rattle.rgo_typed.specs.declared.types.Type.{«Type»}
use Rattle.rgo_typed.specs.Types.{is_pointer_like}
use Rattle.rgo_wellformed.specs.TypeRules.{Compares, Computes, HasField, Takes, bool, chan_of, int, pointer_to}
use Rattle.rgo_wellformed.specs.TypeRules.{slice_of}
use Rattle.rgo_memory.specs.declared.traps.Trap.{Trap}
use Rattle.rgo_memory.specs.declared.traps.Trap.TheVariants.{DivideZero, IndexRange}
use Rattle.rgo_memory.specs.declared.values.Value.{Value}
use Rattle.rgo_memory.specs.declared.values.Value.TheVariants as value
use Rattle.rgo_memory.specs.Channels.{close, receive, received, send, sent, shut}
use Rattle.rgo_memory.specs.Effects.{Does, Effect, Traps, answered, in_memory, in_memory_if_ready, to_object}
use Rattle.rgo_memory.specs.Effects.{to_object_if_ready}
use Rattle.rgo_memory.specs.Elements.{cell_put, element, element_at, element_in, length_in, length_of, or_out_of_range}
use Rattle.rgo_memory.specs.Elements.{put, put_in}
use Rattle.rgo_memory.specs.Fields.{field_value, load, or_nil, store, store_outcome}
use Rattle.rgo_memory.specs.Making.{made, made_struct, new_struct, sized}
use Rattle.rgo_memory.specs.Memory.{Channel, Memory, Object, SliceObject, StructObject, with_object}
use Rattle.rgo_memory.specs.Operators.{binary_of, checked_quotient, inverted, is_equal, negated_value, nil_test, on_ints, same_bool}
use Rattle.rgo_memory.specs.Operators as operators
use Rattle.rgo_memory.specs.Values.{base_zero, element_zero, zero_in, zero_of}
use Rattle.rgo_code.specs.Code.{Code}
use Rattle.rgo_code.specs.Erasure.{erased}
use Rattle.rgo_code.specs.Exists.{declared_in_code}
use Rattle.rgo_code.specs.Types.{ReturnsType}
use Rattle.rgo_sound.specs.Types.{Each, HasKind, HaveKinds, MemoryFits, ObjectFits}
use Rattle.rgo_sound.proofs.steps.Acting.{performed, silent}
use Rattle.rgo_sound.proofs.plain.Steps.{Always}
use Rattle.rgo_sound.proofs.Places.{each_get, each_more, each_replicate, each_set, each_snoc, get_append_last}
use Rattle.rgo_sound.proofs.Places.{get_append_left, get_set_other, get_set_same, get_snoc, get_some, length_set}

-- ---- types

int_no_bool : int ≡ bool → ⊥
int_no_bool e = let x : base.Int ≡ base.Bool = ap (λ (t : «Type»). t.base) e in cc

-- a type of which nil is a value is neither int nor bool
no_int : (t : «Type») → is_pointer_like t ≡ true → t ≡ int → ⊥
no_int t p e = true≢false (sym p ∙ ap is_pointer_like e)

no_bool : (t : «Type») → is_pointer_like t ≡ true → t ≡ bool → ⊥
no_bool t p e = true≢false (sym p ∙ ap is_pointer_like e)

pub same_pointer : (m n : ℕ) → pointer_to m ≡ pointer_to n → m ≡ n
same_pointer m n e = let x : base.Pointer m ≡ base.Pointer n = ap (λ (t : «Type»). t.base) e in cc

inner_of : (l k : Layer) (t u : «Type»)
    → ◌≡◌ {A = «Type»} (record { layers = l ∷ t.layers; base = t.base })
    (record { layers = k ∷ u.layers; base = u.base })
    → t ≡ u
inner_of l k t u e =
    let x : l ∷ t.layers ≡ k ∷ u.layers = ap (λ (t : «Type»). t.layers) e in
    let y : t.layers ≡ u.layers = cc in
    let z : t.base ≡ u.base = ap (λ (t : «Type»). t.base) e in
    λ i. record { layers = y i; base = z i }

pub same_slice : (t u : «Type») → slice_of t ≡ slice_of u → t ≡ u
same_slice t u e = inner_of layer.Slice layer.Slice t u e

pub same_chan : (t u : «Type») → chan_of t ≡ chan_of u → t ≡ u
same_chan t u e = inner_of layer.Chan layer.Chan t u e

pub pointer_no_slice : (n : ℕ) (t : «Type») → pointer_to n ≡ slice_of t → ⊥
pointer_no_slice n t e = let x : [] ≡ layer.Slice ∷ t.layers = ap (λ (t : «Type»). t.layers) e in cc

pub pointer_no_chan : (n : ℕ) (t : «Type») → pointer_to n ≡ chan_of t → ⊥
pointer_no_chan n t e = let x : [] ≡ layer.Chan ∷ t.layers = ap (λ (t : «Type»). t.layers) e in cc

slice_no_chan : (t u : «Type») → slice_of t ≡ chan_of u → ⊥
slice_no_chan t u e =
    let x : layer.Slice ∷ t.layers ≡ layer.Chan ∷ u.layers = ap (λ (t : «Type»). t.layers) e in cc

-- ---- values of types

-- existing objects keep their types
abbrev pub Extends : List «Type» → List «Type» → Type 0
Extends kinds more = (o : ℕ) (ty : «Type») → slice_get kinds o ≡ Some ty → slice_get more o ≡ Some ty

module _ (kinds more : List «Type») (ext : Extends kinds more) where
  -- more objects change nothing: for a value
  pub more_kind : (ty : «Type») (v : Value) → HasKind kinds ty v → HasKind more ty v
  more_kind ty (value.Int i) h = h
  more_kind ty (value.Bool b) h = h
  more_kind ty value.Nil h = h
  more_kind ty (value.Object o) h = (ext o ty h.0, h.1)

  -- for values
  pub more_kinds : (tys : List «Type») (vs : List Value) → HaveKinds kinds tys vs → HaveKinds more tys vs
  more_kinds [] [] h = tt
  more_kinds [] (v ∷ vs) h = h
  more_kinds (ty ∷ tys) [] h = h
  more_kinds (ty ∷ tys) (v ∷ vs) h = (more_kind ty v h.0, more_kinds tys vs h.1)

  -- for an object
  pub more_object : (structs : List Struct) (ty : «Type») (object : Object)
      → ObjectFits structs kinds ty object → ObjectFits structs more ty object
  more_object structs ty (StructObject cells) (n, is, s, at, h) = (n, is, s, at, more_kinds s.fields cells h)
  more_object structs ty (SliceObject cells) (e, is, h) =
      (e, is, each_more (HasKind kinds e) (HasKind more e) cells (λ v. more_kind e v) h)
  more_object structs ty (Channel capacity queue closed) (e, is, h) =
      (e, is, each_more (HasKind kinds e) (HasKind more e) queue (λ v. more_kind e v) h)

module _ (kinds : List «Type») where
  -- a value read
  pub get_kinds : (tys : List «Type») (vs : List Value) (i : ℕ) (ty : «Type») → HaveKinds kinds tys vs
      → slice_get tys i ≡ Some ty → (v : Value) × (slice_get vs i ≡ Some v) × HasKind kinds ty v
  get_kinds [] vs i ty h e = cc
  get_kinds (t ∷ tys) [] i ty h e = absurd h
  get_kinds (t ∷ tys) (v ∷ vs) zero ty h e = (v, refl, subst (λ x. HasKind kinds x v) (same_Some t ty e) h.0)
  get_kinds (t ∷ tys) (v ∷ vs) (suc i) ty h e = get_kinds tys vs i ty h.1 e

  -- a value written
  pub set_kinds : (tys : List «Type») (vs : List Value) (i : ℕ) (ty : «Type») (v : Value) → HaveKinds kinds tys vs
      → slice_get tys i ≡ Some ty → HasKind kinds ty v → HaveKinds kinds tys (slice_set vs i v)
  set_kinds [] vs i ty v h e k = cc
  set_kinds (t ∷ tys) [] i ty v h e k = absurd h
  set_kinds (t ∷ tys) (w ∷ ws) zero ty v h e k =
      (subst (λ x. HasKind kinds x v) (sym (same_Some t ty e)) k, h.1)
  set_kinds (t ∷ tys) (w ∷ ws) (suc i) ty v h e k = (h.0, set_kinds tys ws i ty v h.1 e k)

  -- the zero of a type has that type
  pub zero_kind : (ty : «Type») → HasKind kinds ty (zero_of ty)
  zero_kind ty = go ty.layers ty.base
    where
      at_base : (b : Base) → HasKind kinds (record { layers = []; base = b }) (base_zero b)
      at_base base.Int = refl
      at_base base.Bool = refl
      at_base (base.Pointer n) = refl

      go : (ls : List Layer) (b : Base) → HasKind kinds (record { layers = ls; base = b }) (zero_in ls b)
      go [] b = at_base b
      go (l ∷ ls) b = refl

  pub zeros_kinds : (tys : List «Type») → HaveKinds kinds tys (map zero_of tys)
  zeros_kinds [] = tt
  zeros_kinds (ty ∷ tys) = (zero_kind ty, zeros_kinds tys)

  -- ---- case analysis on the values of a type

  by_int : (P : Value → Type 0) → ((i : ℤ) → P (value.Int i)) → (v : Value) → HasKind kinds int v → P v
  by_int P f (value.Int i) h = f i
  by_int P f (value.Bool b) h = absurd (int_no_bool h)
  by_int P f value.Nil h = absurd (true≢false (sym h))
  by_int P f (value.Object o) h = absurd (true≢false (sym h.1))

  by_bool : (P : Value → Type 0) → ((b : Bool) → P (value.Bool b)) → (v : Value) → HasKind kinds bool v → P v
  by_bool P f (value.Int i) h = absurd (int_no_bool (sym h))
  by_bool P f (value.Bool b) h = f b
  by_bool P f value.Nil h = absurd (true≢false (sym h))
  by_bool P f (value.Object o) h = absurd (true≢false (sym h.1))

  by_pointer : (P : Value → Type 0) (t : «Type») → is_pointer_like t ≡ true → P value.Nil
      → ((o : ℕ) → slice_get kinds o ≡ Some t → P (value.Object o)) → (v : Value) → HasKind kinds t v → P v
  by_pointer P t p n f (value.Int i) h = absurd (no_int t p h)
  by_pointer P t p n f (value.Bool b) h = absurd (no_bool t p h)
  by_pointer P t p n f value.Nil h = n
  by_pointer P t p n f (value.Object o) h = f o h.0

  -- ---- case analysis on the values of a list of types

  by_none : (P : List Value → Type 0) (tys : List «Type») (vs : List Value) → tys ≡ [] → HaveKinds kinds tys vs
      → P [] → P vs
  by_none P tys vs e h p = go vs (subst (λ x. HaveKinds kinds x vs) e h)
    where
      go : (vs : List Value) → HaveKinds kinds [] vs → P vs
      go [] h = p
      go (v ∷ vs) h = absurd h

  by_one : (P : List Value → Type 0) (tys : List «Type») (vs : List Value) (a : «Type») → tys ≡ a ∷ []
      → HaveKinds kinds tys vs → ((v : Value) → HasKind kinds a v → P (v ∷ [])) → P vs
  by_one P tys vs a e h p = go vs (subst (λ x. HaveKinds kinds x vs) e h)
    where
      go : (vs : List Value) → HaveKinds kinds (a ∷ []) vs → P vs
      go [] h = absurd h
      go (v ∷ []) h = p v h.0
      go (v ∷ w ∷ vs) h = absurd h.1

  by_two : (P : List Value → Type 0) (tys : List «Type») (vs : List Value) (a b : «Type») → tys ≡ a ∷ b ∷ []
      → HaveKinds kinds tys vs → ((v w : Value) → HasKind kinds a v → HasKind kinds b w → P (v ∷ w ∷ [])) → P vs
  by_two P tys vs a b e h p = go vs (subst (λ x. HaveKinds kinds x vs) e h)
    where
      go : (vs : List Value) → HaveKinds kinds (a ∷ b ∷ []) vs → P vs
      go [] h = absurd h
      go (v ∷ []) h = absurd h.1
      go (v ∷ w ∷ []) h = p v w h.0 h.1.0
      go (v ∷ w ∷ x ∷ vs) h = absurd h.1.1

  by_three : (P : List Value → Type 0) (tys : List «Type») (vs : List Value) (a b c : «Type»)
      → tys ≡ a ∷ b ∷ c ∷ [] → HaveKinds kinds tys vs
      → ((u v w : Value) → HasKind kinds a u → HasKind kinds b v → HasKind kinds c w → P (u ∷ v ∷ w ∷ [])) → P vs
  by_three P tys vs a b c e h p = go vs (subst (λ x. HaveKinds kinds x vs) e h)
    where
      go : (vs : List Value) → HaveKinds kinds (a ∷ b ∷ c ∷ []) vs → P vs
      go [] h = absurd h
      go (v ∷ []) h = absurd h.1
      go (v ∷ w ∷ []) h = absurd h.1.1
      go (v ∷ w ∷ x ∷ []) h = p v w x h.0 h.1.0 h.1.1.0
      go (v ∷ w ∷ x ∷ y ∷ vs) h = absurd h.1.1.1

-- ---- memory

-- nothing is said of the value of an action that returns none
abbrev pub GivesKind : List «Type» → Option «Type» → Value → Type 0
GivesKind kinds None v = Unit {0}
GivesKind kinds (Some ty) v = HasKind kinds ty v

-- what an effect leaves: a memory that fits perhaps more objects, and a value of the type
abbrev pub Performed : Code → List «Type» → Option «Type» → Effect → Type 0
Performed code kinds to (Does m v) =
    (more : List «Type») × Extends kinds more × MemoryFits code more m × GivesKind more to v
Performed code kinds to (Traps trap) = Unit {0}

-- an object written
pub set_object : (code : Code) (kinds : List «Type») (m : Memory) (o : ℕ) (ty : «Type») (object : Object)
    → MemoryFits code kinds m → slice_get kinds o ≡ Some ty → ObjectFits code.structs kinds ty object
    → MemoryFits code kinds (with_object m o object)
set_object code kinds m o ty object fits k h =
    record {
      objects = λ p x e.
          split (nat_eq o p) (λ t. same p x (eq_of o p t) e (get_some m.heap o below))
          (λ n. fits.objects p x (sym (get_set_other m.heap o p object n) ∙ e));
      no_more = fits.no_more ∙ sym (length_set m.heap o object);
      variables = fits.variables;
    }
  where
    below : o < length m.heap
    below = let a = slice_get_within kinds o ty k in let b = fits.no_more in omega (arith, a, b)

    same : (p : ℕ) (x : Object) → o ≡ p → slice_get (slice_set m.heap o object) p ≡ Some x
        → (old : Object) × (slice_get m.heap o ≡ Some old)
        → (ty : «Type») × (slice_get kinds p ≡ Some ty) × ObjectFits code.structs kinds ty x
    same p x u e (old, w) =
        let is : x ≡ object =
        same_Some x object (sym e ∙ ap (slice_get (slice_set m.heap o object)) (sym u)
        ∙ get_set_same m.heap o old object w)
        in (
          ty,
          ap (slice_get kinds) (sym u) ∙ k,
          subst (λ y. ObjectFits code.structs kinds ty y) (sym is) h,
        )

extends_snoc : (kinds : List «Type») (ty : «Type») → Extends kinds (kinds ++ ty ∷ [])
extends_snoc kinds ty o t e = get_append_left kinds (ty ∷ []) o (slice_get_within kinds o t e) ∙ e

-- an object made
pub make_object : (code : Code) (kinds : List «Type») (m : Memory) (ty : «Type») (object : Object)
    → MemoryFits code kinds m → is_pointer_like ty ≡ true → ObjectFits code.structs kinds ty object
    → Performed code kinds (Some ty) (made m object)
make_object code kinds m ty object fits p h = (
  kinds ++ ty ∷ [],
  extends_snoc kinds ty,
  record {
    objects = λ o x e. go o x (get_snoc m.heap object o x e);
    no_more =
        length-append kinds (ty ∷ []) ∙ ap (λ n. n + 1) fits.no_more ∙ sym (length-append m.heap (object ∷ []));
    variables =
        more_kinds kinds (kinds ++ ty ∷ []) (extends_snoc kinds ty) (map (λ (v : Variable). v.ty) code.variables)
        m.variables fits.variables;
  },
  (get_append_last kinds ty (length m.heap) (sym fits.no_more), p),
)
  where
    go : (o : ℕ) (x : Object) → (slice_get m.heap o ≡ Some x) ⊎ ((o ≡ length m.heap) × (x ≡ object))
        → (t : «Type») × (slice_get (kinds ++ ty ∷ []) o ≡ Some t) × ObjectFits code.structs (kinds ++ ty ∷ []) t x
    go o x (inl e) =
        let f = fits.objects o x e in (
          f.0,
          extends_snoc kinds ty o f.0 f.1,
          more_object kinds (kinds ++ ty ∷ []) (extends_snoc kinds ty) code.structs f.0 x f.2,
        )
    go o x (inr (e, is)) = (
      ty,
      get_append_last kinds ty o (e ∙ sym fits.no_more),
      subst (λ y. ObjectFits code.structs (kinds ++ ty ∷ []) ty y) (sym is)
          (more_object kinds (kinds ++ ty ∷ []) (extends_snoc kinds ty) code.structs ty object h),
    )

-- ---- the actions

module _ (code : Code) (kinds : List «Type») (m : Memory) (fits : MemoryFits code kinds m) where
  -- the object of a pointer exists, and has its type
  pub object_of : (o : ℕ) (ty : «Type») → slice_get kinds o ≡ Some ty
      → (object : Object) × (slice_get m.heap o ≡ Some object) × ObjectFits code.structs kinds ty object
  object_of o ty k = go (get_some m.heap o below)
    where
      below : o < length m.heap
      below = let a = slice_get_within kinds o ty k in let b = fits.no_more in omega (arith, a, b)

      go : (object : Object) × (slice_get m.heap o ≡ Some object)
          → (object : Object) × (slice_get m.heap o ≡ Some object) × ObjectFits code.structs kinds ty object
      go (object, e) =
          let f = fits.objects o object e in
          (object, e, subst (λ t. ObjectFits code.structs kinds t object) (same_Some f.0 ty (sym f.1 ∙ k)) f.2)

  -- case analysis on the object of a pointer to a struct, of a slice, of a channel
  by_struct : (P : Option Object → Type 0) (n o : ℕ) → slice_get kinds o ≡ Some (pointer_to n)
      → ((cells : List Value) (s : Struct) → slice_get code.structs n ≡ Some s → HaveKinds kinds s.fields cells
      → P (Some (StructObject cells)))
      → P (slice_get m.heap o)
  by_struct P n o k f = let x = object_of o (pointer_to n) k in subst P (sym x.1) (go x.0 x.2)
    where
      go : (object : Object) → ObjectFits code.structs kinds (pointer_to n) object → P (Some object)
      go (StructObject cells) (n', is, s, at, h) = f cells s (ap (slice_get code.structs) (same_pointer n n' is) ∙ at) h
      go (SliceObject cells) (e, is, h) = absurd (pointer_no_slice n e is)
      go (Channel capacity queue closed) (e, is, h) = absurd (pointer_no_chan n e is)

  by_slice : (P : Option Object → Type 0) (t : «Type») (o : ℕ) → slice_get kinds o ≡ Some (slice_of t)
      → ((cells : List Value) → Each (HasKind kinds t) cells → P (Some (SliceObject cells)))
      → P (slice_get m.heap o)
  by_slice P t o k f = let x = object_of o (slice_of t) k in subst P (sym x.1) (go x.0 x.2)
    where
      go : (object : Object) → ObjectFits code.structs kinds (slice_of t) object → P (Some object)
      go (StructObject cells) (n, is, s, at, h) = absurd (pointer_no_slice n t (sym is))
      go (SliceObject cells) (e, is, h) =
          f cells (subst (λ u. Each (HasKind kinds u) cells) (sym (same_slice t e is)) h)
      go (Channel capacity queue closed) (e, is, h) = absurd (slice_no_chan t e is)

  by_channel : (P : Option Object → Type 0) (t : «Type») (o : ℕ) → slice_get kinds o ≡ Some (chan_of t)
      → ((capacity : ℕ) (queue : List Value) (closed : Bool) → Each (HasKind kinds t) queue
      → P (Some (Channel capacity queue closed)))
      → P (slice_get m.heap o)
  by_channel P t o k f = let x = object_of o (chan_of t) k in subst P (sym x.1) (go x.0 x.2)
    where
      go : (object : Object) → ObjectFits code.structs kinds (chan_of t) object → P (Some object)
      go (StructObject cells) (n, is, s, at, h) = absurd (pointer_no_chan n t (sym is))
      go (SliceObject cells) (e, is, h) = absurd (slice_no_chan e t (sym is))
      go (Channel capacity queue closed) (e, is, h) =
          f capacity queue closed (subst (λ u. Each (HasKind kinds u) queue) (sym (same_chan t e is)) h)

  -- the memory stays
  gives : (to : Option «Type») (v : Value) → GivesKind kinds to v → Performed code kinds to (Does m v)
  gives to v h = (kinds, (λ o ty e. e), fits, h)

  -- another object in the place of one
  writes : (to : Option «Type») (o : ℕ) (ty : «Type») (object : Object) (v : Value) → slice_get kinds o ≡ Some ty
      → ObjectFits code.structs kinds ty object → GivesKind kinds to v
      → Performed code kinds to (Does (with_object m o object) v)
  writes to o ty object v k h g = (kinds, (λ o ty e. e), set_object code kinds m o ty object fits k h, g)

  -- ---- operators

  abbrev Answers : «Type» → Result Value Trap → Type 0
  Answers t (Ok v) = HasKind kinds t v
  Answers t (Err trap) = Unit {0}

  by_answer : (t : «Type») (a : Result Value Trap) → Answers t a → Performed code kinds (Some t) (answered m a)
  by_answer t (Ok v) h = gives (Some t) v h
  by_answer t (Err trap) h = tt

  quotient : (t : «Type») (y z : ℤ) → t ≡ int → Answers t (checked_quotient y z)
  quotient t y z h = go (int_eq y (pos 0))
    where
      go : (b : Bool) → Answers t (if b then Err DivideZero else operators.int_result z)
      go true = tt
      go false = h

  -- an operator on integers
  on_two_ints : (op : BinaryOp) (t : «Type») → ((x y : ℤ) → Answers t (on_ints op x y)) → (v w : Value)
      → HasKind kinds int v → HasKind kinds int w → Answers t (binary_of op v w)
  on_two_ints op t f v w h g =
      by_int kinds (λ v. Answers t (binary_of op v w))
      (λ x. by_int kinds (λ w. Answers t (binary_of op (value.Int x) w)) (λ y. f x y) w g) v h

  -- `==` and `!=`, of values of one type
  on_two_same : (op : BinaryOp) (t u : «Type») → ((x y : ℤ) → Answers t (on_ints op x y))
      → ((same : Bool) → HasKind kinds t (is_equal op same)) → (v w : Value)
      → HasKind kinds u v → HasKind kinds u w → Answers t (binary_of op v w)
  on_two_same op t u f e (value.Int x) (value.Int y) h g = f x y
  on_two_same op t u f e (value.Int x) (value.Bool y) h g = absurd (int_no_bool (sym h ∙ g))
  on_two_same op t u f e (value.Int x) value.Nil h g = absurd (no_int u g h)
  on_two_same op t u f e (value.Int x) (value.Object p) h g = absurd (no_int u g.1 h)
  on_two_same op t u f e (value.Bool x) (value.Int y) h g = absurd (int_no_bool (sym g ∙ h))
  on_two_same op t u f e (value.Bool x) (value.Bool y) h g = e (same_bool x y)
  on_two_same op t u f e (value.Bool x) value.Nil h g = absurd (no_bool u g h)
  on_two_same op t u f e (value.Bool x) (value.Object p) h g = absurd (no_bool u g.1 h)
  on_two_same op t u f e value.Nil (value.Int y) h g = absurd (no_int u h g)
  on_two_same op t u f e value.Nil (value.Bool y) h g = absurd (no_bool u h g)
  on_two_same op t u f e value.Nil value.Nil h g = e true
  on_two_same op t u f e value.Nil (value.Object p) h g = e false
  on_two_same op t u f e (value.Object o) (value.Int y) h g = absurd (no_int u h.1 g)
  on_two_same op t u f e (value.Object o) (value.Bool y) h g = absurd (no_bool u h.1 g)
  on_two_same op t u f e (value.Object o) value.Nil h g = e false
  on_two_same op t u f e (value.Object o) (value.Object p) h g = e (nat_eq o p)

  negates : (t : «Type») (v : Value) → t ≡ int → HasKind kinds int v → HasKind kinds t (negated_value v)
  negates t v e h = by_int kinds (λ v. HasKind kinds t (negated_value v)) (λ i. e) v h

  inverts : (t : «Type») (v : Value) → t ≡ bool → HasKind kinds bool v → HasKind kinds t (inverted v)
  inverts t v e h = by_bool kinds (λ v. HasKind kinds t (inverted v)) (λ b. e) v h

  nil_tests : (t u : «Type») (v : Value) → t ≡ bool → is_pointer_like u ≡ true → HasKind kinds u v
      → HasKind kinds t (nil_test v)
  nil_tests t u v e p h = by_pointer kinds (λ v. HasKind kinds t (nil_test v)) u p e (λ o k. e) v h

  lengths : (t u : «Type») (v : Value) → t ≡ int → HasKind kinds (slice_of u) v → HasKind kinds t (length_of m v)
  lengths t u v e h =
      by_pointer kinds (λ v. HasKind kinds t (length_of m v)) (slice_of u) refl e
      (λ o k. by_slice (λ x. HasKind kinds t (length_in x)) u o k (λ cells h. e)) v h

  -- ---- fields

  -- a field of an existing struct has the declared type
  field_type : (n k : ℕ) (t : «Type») (s : Struct) → HasField (declared_in_code (erased code)) n k t
      → slice_get code.structs n ≡ Some s → slice_get s.fields k ≡ Some t
  field_type n k t s (fields, at, f) e =
      ap (λ x. slice_get x k) (same_Some s.fields fields
      (sym (ap (option_map (λ (s : Struct). s.fields)) e) ∙ sym
      (slice_get-map (λ (s : Struct). s.fields) code.structs n) ∙ at))
      ∙ f

  loads : (n k : ℕ) (t : «Type») (v : Value) → HasField (declared_in_code (erased code)) n k t
      → HasKind kinds (pointer_to n) v → Performed code kinds (Some t) (answered m (load m v k))
  loads n k t v f h =
      by_pointer kinds (λ v. Performed code kinds (Some t) (answered m (load m v k))) (pointer_to n) refl tt
      (λ o q. by_struct (λ x. Performed code kinds (Some t) (Does m (field_value x k))) n o q (λ cells s at hs.
      let x = get_kinds kinds s.fields cells k t hs (field_type n k t s f at) in
      gives (Some t) (or_nil (slice_get cells k)) (subst (HasKind kinds t) (sym (ap or_nil x.1)) x.2))) v h

  stores : (n k : ℕ) (t : «Type») (v w : Value) → HasField (declared_in_code (erased code)) n k t
      → HasKind kinds (pointer_to n) v → HasKind kinds t w → Performed code kinds None (store m v k w)
  stores n k t v w f h g =
      by_pointer kinds (λ v. Performed code kinds None (store m v k w)) (pointer_to n) refl tt
      (λ o q. by_struct (λ x. Performed code kinds None (to_object m o (store_outcome k w) x)) n o q (λ cells s at hs.
      writes None o (pointer_to n) (StructObject (slice_set cells k w)) value.Nil q
      (n, refl, s, at, set_kinds kinds s.fields cells k t w hs (field_type n k t s f at) g) tt)) v h

  -- ---- elements

  elements : (t : «Type») (cells : List Value) (i : ℤ) → Each (HasKind kinds t) cells → Answers t (element cells i)
  elements t cells (negsuc n) h = tt
  elements t cells (pos i) h = go (slice_get cells i) refl
    where
      go : (o : Option Value) → slice_get cells i ≡ o → Answers t (or_out_of_range o)
      go None e = tt
      go (Some v) e = each_get (HasKind kinds t) cells i v h e

  ats : (t : «Type») (v w : Value) → HasKind kinds (slice_of t) v → HasKind kinds int w → Answers t (element_at m v w)
  ats t v w h g =
      by_int kinds (λ w. Answers t (element_at m v w))
      (λ i. by_pointer kinds (λ v. Answers t (element_at m v (value.Int i))) (slice_of t) refl tt
      (λ o q. by_slice (λ x. Answers t (element_in x i)) t o q (λ cells hs. elements t cells i hs)) v h) w g

  puts : (t : «Type») (u v w : Value) → HasKind kinds (slice_of t) u → HasKind kinds int v → HasKind kinds t w
      → Performed code kinds None (put m u v w)
  puts t u v w h g k =
      by_int kinds (λ v. Performed code kinds None (put m u v w))
      (λ i. by_pointer kinds (λ u. Performed code kinds None (put m u (value.Int i) w)) (slice_of t) refl tt
      (λ o q. by_slice (λ x. Performed code kinds None (to_object m o (put_in i w) x)) t o q
      (λ cells hs. into o q cells i hs))
      u h) v g
    where
      into : (o : ℕ) → slice_get kinds o ≡ Some (slice_of t) → (cells : List Value) (i : ℤ)
          → Each (HasKind kinds t) cells
          → Performed code kinds None (in_memory m o (cell_put cells i w))
      into o q cells (negsuc n) hs = tt
      into o q cells (pos i) hs = by (nat_lt i (length cells))
        where
          by : (b : Bool)
              → Performed code kinds None (in_memory m o (if b then Does (SliceObject (slice_set cells i w)) value.Nil
              else Traps IndexRange))
          by true =
              writes None o (slice_of t) (SliceObject (slice_set cells i w)) value.Nil q
              (t, refl, each_set (HasKind kinds t) cells i w hs k) tt
          by false = tt

  -- ---- new objects

  news : (n : ℕ) (t : «Type») → t ≡ pointer_to n → Performed code kinds (Some t) (new_struct code.structs n m)
  news n t is = go (slice_get code.structs n) refl
    where
      go : (o : Option Struct) → slice_get code.structs n ≡ o → Performed code kinds (Some t) (made_struct o m)
      go None e = gives (Some t) value.Nil (ap is_pointer_like is)
      go (Some s) e =
          make_object code kinds m t (StructObject (map zero_of s.fields)) fits (ap is_pointer_like is)
          (n, is, s, e, zeros_kinds kinds s.fields)

  sizes : (t : «Type») (object : ℕ → Object) (v : Value) → is_pointer_like t ≡ true
      → ((n : ℕ) → ObjectFits code.structs kinds t (object n)) → HasKind kinds int v
      → Performed code kinds (Some t) (sized object v m)
  sizes t object v p f h = by_int kinds (λ v. Performed code kinds (Some t) (sized object v m)) go v h
    where
      go : (i : ℤ) → Performed code kinds (Some t) (sized object (value.Int i) m)
      go (pos n) = make_object code kinds m t (object n) fits p (f n)
      go (negsuc n) = tt

  -- ---- channels

  receives : (t : «Type») (v : Value) → HasKind kinds (chan_of t) v
      → Always (Performed code kinds (Some t)) (receive m v (zero_of t))
  receives t v h =
      by_pointer kinds (λ v. Always (Performed code kinds (Some t)) (receive m v (zero_of t))) (chan_of t) refl tt
      (λ o q. by_channel (λ x. Always (Performed code kinds (Some t)) (to_object_if_ready m o (received (zero_of t)) x))
      t o q
      (λ capacity queue closed hs. into o q capacity queue closed hs)) v h
    where
      into : (o : ℕ) → slice_get kinds o ≡ Some (chan_of t) → (capacity : ℕ) (queue : List Value) (closed : Bool)
          → Each (HasKind kinds t) queue
          → Always (Performed code kinds (Some t)) (in_memory_if_ready m o
          (received (zero_of t) (Channel capacity queue closed)))
      into o q capacity (v ∷ queue) closed hs =
          writes (Some t) o (chan_of t) (Channel capacity queue closed) v q (t, refl, hs.1) hs.0
      into o q capacity [] true hs =
          writes (Some t) o (chan_of t) (Channel capacity [] true) (zero_of t) q (t, refl, tt) (zero_kind kinds t)
      into o q capacity [] false hs = tt

  sends : (t : «Type») (v w : Value) → HasKind kinds (chan_of t) v → HasKind kinds t w
      → Always (Performed code kinds None) (option_map silent (send m v w))
  sends t v w h g =
      by_pointer kinds (λ v. Always (Performed code kinds None) (option_map silent (send m v w))) (chan_of t) refl tt
      (λ o q. by_channel (λ x. Always (Performed code kinds None)
      (option_map silent (to_object_if_ready m o (sent w) x))) t o q
      (λ capacity queue closed hs. into o q capacity queue closed hs)) v h
    where
      into : (o : ℕ) → slice_get kinds o ≡ Some (chan_of t) → (capacity : ℕ) (queue : List Value) (closed : Bool)
          → Each (HasKind kinds t) queue
          → Always (Performed code kinds None) (option_map silent
          (in_memory_if_ready m o (sent w (Channel capacity queue closed))))
      into o q capacity queue true hs = tt
      into o q capacity queue false hs = by (nat_lt (length queue) capacity)
        where
          by : (b : Bool)
              → Always (Performed code kinds None) (option_map silent
              (in_memory_if_ready m o (if b then Some (Does (Channel capacity (queue ++ w ∷ []) false) value.Nil)
              else None)))
          by true =
              writes None o (chan_of t) (Channel capacity (queue ++ w ∷ []) false) value.Nil q
              (t, refl, each_snoc (HasKind kinds t) queue w hs g) tt
          by false = tt

  closes : (t : «Type») (v : Value) → HasKind kinds (chan_of t) v → Performed code kinds None (silent (close m v))
  closes t v h =
      by_pointer kinds (λ v. Performed code kinds None (silent (close m v))) (chan_of t) refl tt
      (λ o q. by_channel (λ x. Performed code kinds None (silent (to_object m o shut x))) t o q
      (λ capacity queue closed hs. into o q capacity queue closed hs)) v h
    where
      into : (o : ℕ) → slice_get kinds o ≡ Some (chan_of t) → (capacity : ℕ) (queue : List Value) (closed : Bool)
          → Each (HasKind kinds t) queue
          → Performed code kinds None (silent (in_memory m o (shut (Channel capacity queue closed))))
      into o q capacity queue true hs = tt
      into o q capacity queue false hs =
          writes None o (chan_of t) (Channel capacity queue true) value.Nil q (t, refl, hs) tt

  -- ---- package variables

  abbrev variable_types : List «Type»
  variable_types = map (λ (v : Variable). v.ty) code.variables

  gets : (n : ℕ) (t : «Type») → slice_get variable_types n ≡ Some t → HasKind kinds t (or_nil (slice_get m.variables n))
  gets n t e =
      let x = get_kinds kinds variable_types m.variables n t fits.variables e in
      subst (HasKind kinds t) (sym (ap or_nil x.1)) x.2

  sets : (n : ℕ) (t : «Type») (v : Value) → slice_get variable_types n ≡ Some t → HasKind kinds t v
      → Performed code kinds None (Does (record m { variables = slice_set m.variables n v }) value.Nil)
  sets n t v e h = (
    kinds,
    (λ o ty e. e),
    record {
      objects = fits.objects;
      no_more = fits.no_more;
      variables = set_kinds kinds variable_types m.variables n t v fits.variables e h;
    },
    tt,
  )

  -- ---- each action

  abbrev Gives : Action → «Type» → List Value → Type 0
  Gives a t vs = Always (Performed code kinds (Some t)) (performed code.structs a t vs m)

  computes_ints : (op : BinaryOp) (t : «Type») (tys : List «Type») (vs : List Value)
      → ((x y : ℤ) → Answers t (on_ints op x y)) → tys ≡ int ∷ int ∷ [] → HaveKinds kinds tys vs
      → Gives (action.Binary op) t vs
  computes_ints op t tys vs f e h =
      by_two kinds (Gives (action.Binary op) t) tys vs int int e h
      (λ v w hv hw. by_answer t (binary_of op v w) (on_two_ints op t f v w hv hw))

  computes_same : (op : BinaryOp) (t : «Type») (tys : List «Type») (vs : List Value)
      → ((x y : ℤ) → Answers t (on_ints op x y)) → ((same : Bool) → HasKind kinds t (is_equal op same))
      → Compares tys t → HaveKinds kinds tys vs → Gives (action.Binary op) t vs
  computes_same op t tys vs f e c h =
      by_two kinds (Gives (action.Binary op) t) tys vs c.0 c.0 c.1 h
      (λ v w hv hw. by_answer t (binary_of op v w) (on_two_same op t c.0 f e v w hv hw))

  computes : (op : BinaryOp) (t : «Type») (tys : List «Type») (vs : List Value) → Computes op tys t
      → HaveKinds kinds tys vs → Gives (action.Binary op) t vs
  computes binary.Mul t tys vs c h = computes_ints binary.Mul t tys vs (λ x y. c.1) c.0 h
  computes binary.Div t tys vs c h = computes_ints binary.Div t tys vs (λ x y. quotient t y _ c.1) c.0 h
  computes binary.Rem t tys vs c h = computes_ints binary.Rem t tys vs (λ x y. quotient t y _ c.1) c.0 h
  computes binary.Add t tys vs c h = computes_ints binary.Add t tys vs (λ x y. c.1) c.0 h
  computes binary.Sub t tys vs c h = computes_ints binary.Sub t tys vs (λ x y. c.1) c.0 h
  computes binary.Eq t tys vs c h = computes_same binary.Eq t tys vs (λ x y. c.3) (λ same. c.3) c h
  computes binary.Ne t tys vs c h = computes_same binary.Ne t tys vs (λ x y. c.3) (λ same. c.3) c h
  computes binary.Lt t tys vs c h = computes_ints binary.Lt t tys vs (λ x y. c.1) c.0 h
  computes binary.Le t tys vs c h = computes_ints binary.Le t tys vs (λ x y. c.1) c.0 h
  computes binary.Gt t tys vs c h = computes_ints binary.Gt t tys vs (λ x y. c.1) c.0 h
  computes binary.Ge t tys vs c h = computes_ints binary.Ge t tys vs (λ x y. c.1) c.0 h
  computes binary.And t tys vs c h = absurd c
  computes binary.Or t tys vs c h = absurd c

  -- an action that returns a value
  pub returns : (a : Action) (t : «Type») (tys : List «Type») (vs : List Value) → ReturnsType (erased code) a tys t
      → HaveKinds kinds tys vs → Always (Performed code kinds (Some t)) (performed code.structs a t vs m)
  returns (action.Int k) t tys vs r h =
      by_none kinds (Gives (action.Int k) t) tys vs r.0 h (gives (Some t) (value.Int k) r.1)
  returns (action.Bool b) t tys vs r h =
      by_none kinds (Gives (action.Bool b) t) tys vs r.0 h (gives (Some t) (value.Bool b) r.1)
  returns action.Nil t tys vs r h = by_none kinds (Gives action.Nil t) tys vs r.0 h (gives (Some t) value.Nil r.1)
  returns action.Copy t tys vs r h = by_one kinds (Gives action.Copy t) tys vs t r h (λ v g. gives (Some t) v g)
  returns (action.Binary op) t tys vs r h = computes op t tys vs r h
  returns action.Neg t tys vs r h =
      by_one kinds (Gives action.Neg t) tys vs int r.0 h (λ v g. gives (Some t) (negated_value v) (negates t v r.1 g))
  returns action.Not t tys vs r h =
      by_one kinds (Gives action.Not t) tys vs bool r.0 h (λ v g. gives (Some t) (inverted v) (inverts t v r.1 g))
  returns action.IsNil t tys vs (u, e, p, is) h =
      by_one kinds (Gives action.IsNil t) tys vs u e h (λ v g. gives (Some t) (nil_test v) (nil_tests t u v is p g))
  returns action.Len t tys vs (u, e, is) h =
      by_one kinds (Gives action.Len t) tys vs (slice_of u) e h
      (λ v g. gives (Some t) (length_of m v) (lengths t u v is g))
  returns (action.Load k) t tys vs (n, e, f) h =
      by_one kinds (Gives (action.Load k) t) tys vs (pointer_to n) e h (λ v g. loads n k t v f g)
  returns action.At t tys vs r h =
      by_two kinds (Gives action.At t) tys vs (slice_of t) int r h
      (λ v w g k. by_answer t (element_at m v w) (ats t v w g k))
  returns (action.New n) t tys vs r h = by_none kinds (Gives (action.New n) t) tys vs r.0 h (news n t r.1)
  returns action.Slice t tys vs (e, u, is) h =
      by_one kinds (Gives action.Slice t) tys vs int e h
      (λ v g. sizes t (λ n. SliceObject (replicate n (element_zero t))) v (ap is_pointer_like is)
      (λ n. (
        u,
        is,
        each_replicate (HasKind kinds u) n (element_zero t)
            (subst (HasKind kinds u) (sym (ap element_zero is)) (zero_kind kinds u)),
      )) g)
  returns action.Chan t tys vs (e, u, is) h =
      by_one kinds (Gives action.Chan t) tys vs int e h
      (λ v g. sizes t (λ n. Channel n [] false) v (ap is_pointer_like is) (λ n. (u, is, tt)) g)
  returns action.Recv t tys vs r h =
      by_one kinds (Gives action.Recv t) tys vs (chan_of t) r h (λ v g. receives t v g)
  returns (action.Get n) t tys vs r h =
      by_none kinds (Gives (action.Get n) t) tys vs r.0 h (gives (Some t) (or_nil (slice_get m.variables n))
      (gets n t r.1))
  returns (action.Store k) t tys vs r h = absurd r
  returns action.Put t tys vs r h = absurd r
  returns action.Send t tys vs r h = absurd r
  returns action.Close t tys vs r h = absurd r
  returns (action.Set n) t tys vs r h = absurd r

  abbrev Leaves : Action → «Type» → List Value → Type 0
  Leaves a ty vs = Always (Performed code kinds None) (performed code.structs a ty vs m)

  -- an action without a value
  pub takes : (a : Action) (ty : «Type») (tys : List «Type») (vs : List Value) → Takes (declared_in_code (erased code)) a tys
      → HaveKinds kinds tys vs → Always (Performed code kinds None) (performed code.structs a ty vs m)
  takes (action.Store k) ty tys vs (n, t, e, f) h =
      by_two kinds (Leaves (action.Store k) ty) tys vs (pointer_to n) t e h (λ v w g l. stores n k t v w f g l)
  takes action.Put ty tys vs (t, e) h =
      by_three kinds (Leaves action.Put ty) tys vs (slice_of t) int t e h (λ u v w f g l. puts t u v w f g l)
  takes action.Send ty tys vs (t, e) h =
      by_two kinds (Leaves action.Send ty) tys vs (chan_of t) t e h (λ v w g l. sends t v w g l)
  takes action.Close ty tys vs (t, e) h =
      by_one kinds (Leaves action.Close ty) tys vs (chan_of t) e h (λ v g. closes t v g)
  takes (action.Set n) ty tys vs (t, e, f) h =
      by_one kinds (Leaves (action.Set n) ty) tys vs t e h (λ v g. sets n t v f g)
  takes (action.Int k) ty tys vs r h = absurd r
  takes (action.Bool b) ty tys vs r h = absurd r
  takes action.Nil ty tys vs r h = absurd r
  takes action.Copy ty tys vs r h = absurd r
  takes (action.Binary op) ty tys vs r h = absurd r
  takes action.Neg ty tys vs r h = absurd r
  takes action.Not ty tys vs r h = absurd r
  takes action.IsNil ty tys vs r h = absurd r
  takes action.Len ty tys vs r h = absurd r
  takes (action.Load k) ty tys vs r h = absurd r
  takes action.At ty tys vs r h = absurd r
  takes (action.New n) ty tys vs r h = absurd r
  takes action.Slice ty tys vs r h = absurd r
  takes action.Chan ty tys vs r h = absurd r
  takes action.Recv ty tys vs r h = absurd r
  takes (action.Get n) ty tys vs r h = absurd r
