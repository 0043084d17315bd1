-- The heap does not shrink, and its objects keep their sizes, whatever one goroutine does alone. It is proved for every sum over the
-- heap that sees only sizes (`sum_only_grows`): the number of objects is one, and the number of their pages, with which taken pages are
-- compared, is another.
use Rattle.std.proofs.Common.{◌≡◌, ℕ, zero, suc, ◌≤◌, ◌+◌, Bool, true, false, List, [], ◌∷◌, ◌++◌, length, Option, Some, None}
use Rattle.std.proofs.Common.{refl, ap, subst, arith, if◌then◌else◌, max, nat_lt, slice_get, slice_set, sum_by, replicate}
use Rattle.std.proofs.lemmas.List.Sums.{sum_by-cons, sum_by_push}
use Rattle.std.proofs.lemmas.Option.{same_Some}
use Rattle.std.specs.Option.{option_map}
use Rattle.std.specs.Prelude.{Result, Ok, Err, ℤ, pos, negsuc}
use Rattle.rgo_typed.specs.declared.actions.Action.{Action}
use Rattle.rgo_typed.specs.declared.actions.Action.TheVariants as action
use Rattle.rgo_typed.specs.declared.programs.Struct.{Struct}
use Rattle.rgo_typed.specs.declared.types.Type.{«Type»}
use Rattle.rgo_memory.specs.declared.traps.Trap.{Trap}
use Rattle.rgo_memory.specs.declared.traps.Trap.TheVariants.{IndexRange}
use Rattle.rgo_memory.specs.declared.values.Value.{Value}
use Rattle.rgo_memory.specs.declared.values.Value.TheVariants as value
use Rattle.rgo_memory.specs.Channels.{close, receive, received, send, sent, shut}
use Rattle.rgo_memory.specs.Effects.{Does, Effect, Outcome, Traps, answered, in_memory, in_memory_if_ready, to_object}
use Rattle.rgo_memory.specs.Effects.{to_object_if_ready}
use Rattle.rgo_memory.specs.Elements.{cell_put, element_at, length_of, put, put_in}
use Rattle.rgo_memory.specs.Fields.{load, or_nil, store, store_outcome}
use Rattle.rgo_memory.specs.Making.{made, made_struct, sized}
use Rattle.rgo_memory.specs.Memory.{Channel, Memory, Object, SliceObject, StructObject}
use Rattle.rgo_memory.specs.Operators.{binary_of, inverted, negated_value, nil_test}
use Rattle.rgo_memory.specs.Perform.{on_none, on_one, on_three, on_two, perform, set_variable}
use Rattle.rgo_memory.specs.Values.{element_zero, zero_of}
use Rattle.rgo_tac.specs.Code.{Branch, Call, Do, Go, Instr, Jump, Op, Print, Return, Tac, TacFn}
use Rattle.rgo_tac.specs.Frames.{TacFrame, value_at, operand_values}
use Rattle.rgo_tac.specs.Steps.{instr_of, destination_type}
use Rattle.rgo_sound.proofs.steps.Acting.{Acted, act, act_at, alone, call, effected, performed, returned, silent, start}
use Rattle.rgo_sound.proofs.steps.Acting.{trap_place}
use Rattle.rgo_sound.proofs.plain.Steps.{Always}
use Rattle.rgo_sound.proofs.Places.{length_set}
use Rattle.rgo_region_machine.specs.Objects.{cells, object_words}

-- ---- an operation on one object keeps its size

abbrev pub SameSize : Object → Object → Type 0
SameSize old new = (object_words new ≡ object_words old) × (cells new ≡ cells old)

abbrev KeepsSize : Object → Outcome Object → Type 0
KeepsSize old (Does new v) = SameSize old new
KeepsSize old (Traps trap) = Unit {0}

stored_size : (k : ℕ) (v : Value) (old : Object) → KeepsSize old (store_outcome k v old)
stored_size k v (StructObject fields) = (ap (max 1) (length_set fields k v), length_set fields k v)
stored_size k v (SliceObject elements) = (refl, refl)
stored_size k v (Channel capacity queue closed) = (refl, refl)

cell_put_size : (elements : List Value) (i : ℤ) (v : Value)
    → KeepsSize (SliceObject elements) (cell_put elements i v)
cell_put_size elements (negsuc n) v = tt
cell_put_size elements (pos i) v = by (nat_lt i (length elements))
  where
    by : (b : Bool) → KeepsSize (SliceObject elements) (if b then Does (SliceObject (slice_set elements i v)) value.Nil
        else Traps IndexRange)
    by true = (ap (λ n. 1 + n) (length_set elements i v), length_set elements i v)
    by false = tt

put_size : (i : ℤ) (v : Value) (old : Object) → KeepsSize old (put_in i v old)
put_size i v (StructObject fields) = (refl, refl)
put_size i v (SliceObject elements) = cell_put_size elements i v
put_size i v (Channel capacity queue closed) = (refl, refl)

received_size : (blank : Value) (old : Object) → Always (KeepsSize old) (received blank old)
received_size blank (StructObject fields) = (refl, refl)
received_size blank (SliceObject elements) = (refl, refl)
received_size blank (Channel capacity (v ∷ queue) closed) = (refl, refl)
received_size blank (Channel capacity [] true) = (refl, refl)
received_size blank (Channel capacity [] false) = tt

sent_size : (v : Value) (old : Object) → Always (KeepsSize old) (sent v old)
sent_size v (StructObject fields) = (refl, refl)
sent_size v (SliceObject elements) = (refl, refl)
sent_size v (Channel capacity queue true) = tt
sent_size v (Channel capacity queue false) = by (nat_lt (length queue) capacity)
  where
    by : (b : Bool) → Always (KeepsSize (Channel capacity queue false))
        (if b then Some (Does (Channel capacity (queue ++ v ∷ []) false) value.Nil) else None)
    by true = (refl, refl)
    by false = tt

shut_size : (old : Object) → KeepsSize old (shut old)
shut_size (StructObject fields) = (refl, refl)
shut_size (SliceObject elements) = (refl, refl)
shut_size (Channel capacity queue true) = tt
shut_size (Channel capacity queue false) = (refl, refl)

-- ---- a sum over the heap, of what objects of one size have in common

sum_replaced : (f : Object → ℕ) (heap : List Object) (n : ℕ) (old new : Object) → slice_get heap n ≡ Some old
    → f new ≡ f old → sum_by f (slice_set heap n new) ≡ sum_by f heap
sum_replaced f [] n old new e same = refl
sum_replaced f (x ∷ heap) zero old new e same =
    let a = sum_by-cons f new heap in
    let b = sum_by-cons f x heap in
    let c : f x ≡ f old = ap f (same_Some x old e) in
    omega (arith, a, b, c, same)
sum_replaced f (x ∷ heap) (suc n) old new e same =
    let a = sum_by-cons f x (slice_set heap n new) in
    let b = sum_by-cons f x heap in
    let c = sum_replaced f heap n old new e same in
    omega (arith, a, b, c)

module _ (f : Object → ℕ) (kept : (old new : Object) → SameSize old new → f new ≡ f old) (m : Memory) where
  abbrev Grows : Effect → Type 0
  Grows (Does m' v) = sum_by f m.heap ≤ sum_by f m'.heap
  Grows (Traps trap) = Unit {0}

  stays : (v : Value) → Grows (Does m v)
  stays v = omega arith

  answer_grows : (a : Result Value Trap) → Grows (answered m a)
  answer_grows (Ok v) = stays v
  answer_grows (Err trap) = tt

  -- ---- one object is written

  in_memory_grows : (n : ℕ) (old : Object) → slice_get m.heap n ≡ Some old → (outcome : Outcome Object)
      → KeepsSize old outcome → Grows (in_memory m n outcome)
  in_memory_grows n old e (Does object v) k =
      let a = sum_replaced f m.heap n old object e (kept old object k) in omega (arith, a)
  in_memory_grows n old e (Traps trap) k = tt

  to_object_grows : (n : ℕ) (g : Object → Outcome Object) → ((old : Object) → KeepsSize old (g old))
      → (o : Option Object) → slice_get m.heap n ≡ o → Grows (to_object m n g o)
  to_object_grows n g k None e = stays value.Nil
  to_object_grows n g k (Some object) e = in_memory_grows n object e (g object) (k object)

  if_ready_grows : (n : ℕ) (old : Object) → slice_get m.heap n ≡ Some old → (o : Option (Outcome Object))
      → Always (KeepsSize old) o → Always Grows (in_memory_if_ready m n o)
  if_ready_grows n old e None k = tt
  if_ready_grows n old e (Some outcome) k = in_memory_grows n old e outcome k

  to_object_if_ready_grows : (n : ℕ) (g : Object → Option (Outcome Object))
      → ((old : Object) → Always (KeepsSize old) (g old)) → (o : Option Object) → slice_get m.heap n ≡ o
      → Always Grows (to_object_if_ready m n g o)
  to_object_if_ready_grows n g k None e = stays value.Nil
  to_object_if_ready_grows n g k (Some object) e = if_ready_grows n object e (g object) (k object)

  store_grows : (v : Value) (k : ℕ) (w : Value) → Grows (store m v k w)
  store_grows value.Nil k w = tt
  store_grows (value.Object n) k w = to_object_grows n (store_outcome k w) (stored_size k w) (slice_get m.heap n) refl
  store_grows (value.Int i) k w = stays value.Nil
  store_grows (value.Bool b) k w = stays value.Nil

  put_grows : (u v w : Value) → Grows (put m u v w)
  put_grows value.Nil (value.Int i) w = tt
  put_grows value.Nil (value.Bool b) w = stays value.Nil
  put_grows value.Nil value.Nil w = stays value.Nil
  put_grows value.Nil (value.Object o) w = stays value.Nil
  put_grows (value.Object n) (value.Int i) w = to_object_grows n (put_in i w) (put_size i w) (slice_get m.heap n) refl
  put_grows (value.Object n) (value.Bool b) w = stays value.Nil
  put_grows (value.Object n) value.Nil w = stays value.Nil
  put_grows (value.Object n) (value.Object o) w = stays value.Nil
  put_grows (value.Int i) v w = stays value.Nil
  put_grows (value.Bool b) v w = stays value.Nil

  receive_grows : (v blank : Value) → Always Grows (receive m v blank)
  receive_grows value.Nil blank = tt
  receive_grows (value.Object n) blank = to_object_if_ready_grows n (received blank) (received_size blank)
      (slice_get m.heap n) refl
  receive_grows (value.Int i) blank = stays value.Nil
  receive_grows (value.Bool b) blank = stays value.Nil

  send_grows : (v w : Value) → Always Grows (send m v w)
  send_grows value.Nil w = tt
  send_grows (value.Object n) w = to_object_if_ready_grows n (sent w) (sent_size w) (slice_get m.heap n) refl
  send_grows (value.Int i) w = stays value.Nil
  send_grows (value.Bool b) w = stays value.Nil

  close_grows : (v : Value) → Grows (close m v)
  close_grows value.Nil = tt
  close_grows (value.Object n) = to_object_grows n shut shut_size (slice_get m.heap n) refl
  close_grows (value.Int i) = stays value.Nil
  close_grows (value.Bool b) = stays value.Nil

  silent_grows : (e : Effect) → Grows e → Grows (silent e)
  silent_grows (Does m' v) h = h
  silent_grows (Traps trap) h = tt

  silent_maybe : (o : Option Effect) → Always Grows o → Always Grows (option_map silent o)
  silent_maybe None h = tt
  silent_maybe (Some e) h = silent_grows e h

  -- ---- a package variable is written, or an object is made

  variable_grows : (n : ℕ) (v : Value) → Grows (set_variable n v m)
  variable_grows n v = omega arith

  made_grows : (object : Object) → Grows (made m object)
  made_grows object = let e = sum_by_push f m.heap object in omega (arith, e)

  struct_grows : (o : Option Struct) → Grows (made_struct o m)
  struct_grows None = stays value.Nil
  struct_grows (Some s) = made_grows _

  sized_grows : (object : ℕ → Object) (v : Value) → Grows (sized object v m)
  sized_grows object (value.Int (pos n)) = made_grows (object n)
  sized_grows object (value.Int (negsuc n)) = tt
  sized_grows object (value.Bool b) = stays value.Nil
  sized_grows object value.Nil = stays value.Nil
  sized_grows object (value.Object o) = stays value.Nil

  -- ---- actions

  module _ (structs : List Struct) where
    none_grows : (a : Action) → Grows (on_none structs a m)
    none_grows (action.Int k) = stays (value.Int k)
    none_grows (action.Bool b) = stays (value.Bool b)
    none_grows action.Nil = stays value.Nil
    none_grows action.Copy = stays value.Nil
    none_grows (action.Binary op) = stays value.Nil
    none_grows action.Neg = stays value.Nil
    none_grows action.Not = stays value.Nil
    none_grows action.IsNil = stays value.Nil
    none_grows action.Len = stays value.Nil
    none_grows (action.Load k) = stays value.Nil
    none_grows (action.Store k) = stays value.Nil
    none_grows action.At = stays value.Nil
    none_grows action.Put = stays value.Nil
    none_grows (action.New n) = struct_grows (slice_get structs n)
    none_grows action.Slice = stays value.Nil
    none_grows action.Chan = stays value.Nil
    none_grows action.Recv = stays value.Nil
    none_grows action.Send = stays value.Nil
    none_grows action.Close = stays value.Nil
    none_grows (action.Get n) = stays (or_nil (slice_get m.variables n))
    none_grows (action.Set n) = stays value.Nil

    one_grows : (a : Action) (ty : «Type») (v : Value) → Grows (on_one a ty v m)
    one_grows (action.Int k) ty v = stays value.Nil
    one_grows (action.Bool b) ty v = stays value.Nil
    one_grows action.Nil ty v = stays value.Nil
    one_grows action.Copy ty v = stays v
    one_grows (action.Binary op) ty v = stays value.Nil
    one_grows action.Neg ty v = stays (negated_value v)
    one_grows action.Not ty v = stays (inverted v)
    one_grows action.IsNil ty v = stays (nil_test v)
    one_grows action.Len ty v = stays (length_of m v)
    one_grows (action.Load k) ty v = answer_grows (load m v k)
    one_grows (action.Store k) ty v = stays value.Nil
    one_grows action.At ty v = stays value.Nil
    one_grows action.Put ty v = stays value.Nil
    one_grows (action.New n) ty v = stays value.Nil
    one_grows action.Slice ty v = sized_grows (λ n. SliceObject (replicate n (element_zero ty))) v
    one_grows action.Chan ty v = sized_grows (λ n. Channel n [] false) v
    one_grows action.Recv ty v = stays value.Nil
    one_grows action.Send ty v = stays value.Nil
    one_grows action.Close ty v = stays value.Nil
    one_grows (action.Get n) ty v = stays value.Nil
    one_grows (action.Set n) ty v = variable_grows n v

    two_grows : (a : Action) (v w : Value) → Grows (on_two a v w m)
    two_grows (action.Int k) v w = stays value.Nil
    two_grows (action.Bool b) v w = stays value.Nil
    two_grows action.Nil v w = stays value.Nil
    two_grows action.Copy v w = stays value.Nil
    two_grows (action.Binary op) v w = answer_grows (binary_of op v w)
    two_grows action.Neg v w = stays value.Nil
    two_grows action.Not v w = stays value.Nil
    two_grows action.IsNil v w = stays value.Nil
    two_grows action.Len v w = stays value.Nil
    two_grows (action.Load k) v w = stays value.Nil
    two_grows (action.Store k) v w = store_grows v k w
    two_grows action.At v w = answer_grows (element_at m v w)
    two_grows action.Put v w = stays value.Nil
    two_grows (action.New n) v w = stays value.Nil
    two_grows action.Slice v w = stays value.Nil
    two_grows action.Chan v w = stays value.Nil
    two_grows action.Recv v w = stays value.Nil
    two_grows action.Send v w = stays value.Nil
    two_grows action.Close v w = stays value.Nil
    two_grows (action.Get n) v w = stays value.Nil
    two_grows (action.Set n) v w = stays value.Nil

    three_grows : (a : Action) (u v w : Value) → Grows (on_three a u v w m)
    three_grows (action.Int k) u v w = stays value.Nil
    three_grows (action.Bool b) u v w = stays value.Nil
    three_grows action.Nil u v w = stays value.Nil
    three_grows action.Copy u v w = stays value.Nil
    three_grows (action.Binary op) u v w = stays value.Nil
    three_grows action.Neg u v w = stays value.Nil
    three_grows action.Not u v w = stays value.Nil
    three_grows action.IsNil u v w = stays value.Nil
    three_grows action.Len u v w = stays value.Nil
    three_grows (action.Load k) u v w = stays value.Nil
    three_grows (action.Store k) u v w = stays value.Nil
    three_grows action.At u v w = stays value.Nil
    three_grows action.Put u v w = put_grows u v w
    three_grows (action.New n) u v w = stays value.Nil
    three_grows action.Slice u v w = stays value.Nil
    three_grows action.Chan u v w = stays value.Nil
    three_grows action.Recv u v w = stays value.Nil
    three_grows action.Send u v w = stays value.Nil
    three_grows action.Close u v w = stays value.Nil
    three_grows (action.Get n) u v w = stays value.Nil
    three_grows (action.Set n) u v w = stays value.Nil

    perform_grows : (a : Action) (ty : «Type») (vs : List Value) → Grows (perform structs a ty vs m)
    perform_grows a ty [] = none_grows a
    perform_grows a ty (v ∷ []) = one_grows a ty v
    perform_grows a ty (v ∷ w ∷ []) = two_grows a v w
    perform_grows a ty (u ∷ v ∷ w ∷ []) = three_grows a u v w
    perform_grows a ty (u ∷ v ∷ w ∷ x ∷ vs) = stays value.Nil

    performed_grows : (a : Action) (ty : «Type») (vs : List Value) → Always Grows (performed structs a ty vs m)
    performed_grows (action.Int k) ty vs = perform_grows (action.Int k) ty vs
    performed_grows (action.Bool b) ty vs = perform_grows (action.Bool b) ty vs
    performed_grows action.Nil ty vs = perform_grows action.Nil ty vs
    performed_grows action.Copy ty vs = perform_grows action.Copy ty vs
    performed_grows (action.Binary op) ty vs = perform_grows (action.Binary op) ty vs
    performed_grows action.Neg ty vs = perform_grows action.Neg ty vs
    performed_grows action.Not ty vs = perform_grows action.Not ty vs
    performed_grows action.IsNil ty vs = perform_grows action.IsNil ty vs
    performed_grows action.Len ty vs = perform_grows action.Len ty vs
    performed_grows (action.Load k) ty vs = perform_grows (action.Load k) ty vs
    performed_grows (action.Store k) ty vs = perform_grows (action.Store k) ty vs
    performed_grows action.At ty vs = perform_grows action.At ty vs
    performed_grows action.Put ty vs = perform_grows action.Put ty vs
    performed_grows (action.New n) ty vs = perform_grows (action.New n) ty vs
    performed_grows action.Slice ty vs = perform_grows action.Slice ty vs
    performed_grows action.Chan ty vs = perform_grows action.Chan ty vs
    performed_grows (action.Get n) ty vs = perform_grows (action.Get n) ty vs
    performed_grows (action.Set n) ty vs = perform_grows (action.Set n) ty vs
    performed_grows action.Recv ty [] = perform_grows action.Recv ty []
    performed_grows action.Recv ty (c ∷ []) = receive_grows c (zero_of ty)
    performed_grows action.Recv ty (c ∷ d ∷ vs) = perform_grows action.Recv ty (c ∷ d ∷ vs)
    performed_grows action.Send ty [] = perform_grows action.Send ty []
    performed_grows action.Send ty (c ∷ []) = perform_grows action.Send ty (c ∷ [])
    performed_grows action.Send ty (c ∷ v ∷ []) = silent_maybe (send m c v) (send_grows c v)
    performed_grows action.Send ty (c ∷ v ∷ w ∷ vs) = perform_grows action.Send ty (c ∷ v ∷ w ∷ vs)
    performed_grows action.Close ty [] = perform_grows action.Close ty []
    performed_grows action.Close ty (c ∷ []) = silent_grows (close m c) (close_grows c)
    performed_grows action.Close ty (c ∷ d ∷ vs) = perform_grows action.Close ty (c ∷ d ∷ vs)

  -- ---- instructions

  abbrev ActedGrows : Acted → Type 0
  ActedGrows a = sum_by f m.heap ≤ sum_by f a.memory.heap

  effected_grows : (frame : TacFrame) (callers : List TacFrame) (to : Option ℕ) (place : ℕ) (o : Option Effect)
      → Always Grows o → Always ActedGrows (effected m frame callers to place o)
  effected_grows frame callers to place None h = tt
  effected_grows frame callers to place (Some (Does m' v)) h = h
  effected_grows frame callers to place (Some (Traps trap)) h = omega arith

  module _ (code : Tac) where
    call_grows : (frame : TacFrame) (callers : List TacFrame) (n : ℕ) (vs : List Value) (o : Option TacFn)
        → Always ActedGrows (call m frame callers n vs o)
    call_grows frame callers n vs None = omega arith
    call_grows frame callers n vs (Some fn) = omega arith

    start_grows : (frame : TacFrame) (callers : List TacFrame) (n : ℕ) (vs : List Value) (o : Option TacFn)
        → Always ActedGrows (start m frame callers n vs o)
    start_grows frame callers n vs None = omega arith
    start_grows frame callers n vs (Some fn) = omega arith

    returned_grows : (v : Option Value) (callers : List TacFrame) → Always ActedGrows (returned code m v callers)
    returned_grows v [] = omega arith
    returned_grows v (caller ∷ callers) = omega arith

    act_grows : (op : Op) (place : ℕ) (frame : TacFrame) (callers : List TacFrame)
        → Always ActedGrows (act code m op place frame callers)
    act_grows (Do to a from) place frame callers = effected_grows frame callers to (trap_place a place)
        (performed code.structs a (destination_type code frame to) (operand_values frame from) m)
        (performed_grows code.structs a (destination_type code frame to) (operand_values frame from))
    act_grows (Call to n from) place frame callers = call_grows frame callers n (operand_values frame from)
        (slice_get code.functions n)
    act_grows (Go n from) place frame callers = start_grows frame callers n (operand_values frame from)
        (slice_get code.functions n)
    act_grows (Print pieces from) place frame callers = omega arith
    act_grows (Jump target) place frame callers = omega arith
    act_grows (Branch test target other) place frame callers = omega arith
    act_grows (Return v) place frame callers = returned_grows (option_map (value_at frame) v) callers

    act_at_grows : (o : Option Instr) (frame : TacFrame) (callers : List TacFrame)
        → Always ActedGrows (act_at code m o frame callers)
    act_at_grows None frame callers = omega arith
    act_at_grows (Some i) frame callers = act_grows i.op i.place frame callers

    alone_grows : (frames : List TacFrame) → Always ActedGrows (alone code m frames)
    alone_grows [] = tt
    alone_grows (frame ∷ callers) = act_at_grows (instr_of code frame) frame callers

-- whatever objects of one size have in common, its sum over the heap does not shrink
pub sum_only_grows : (f : Object → ℕ) → ((old new : Object) → SameSize old new → f new ≡ f old) → (code : Tac)
    (m : Memory) (frames : List TacFrame) (a : Acted) → alone code m frames ≡ Some a
    → sum_by f m.heap ≤ sum_by f a.memory.heap
sum_only_grows f kept code m frames a e = subst (Always (ActedGrows f kept m)) e (alone_grows f kept m code frames)

sum_of_ones : (heap : List Object) → sum_by (λ (o : Object). 1) heap ≡ length heap
sum_of_ones [] = refl
sum_of_ones (o ∷ heap) =
    let a = sum_by-cons (λ (x : Object). 1) o heap in let b = sum_of_ones heap in omega (arith, a, b)

pub heap_only_grows : (code : Tac) (m : Memory) (frames : List TacFrame) (a : Acted) → alone code m frames ≡ Some a
    → length m.heap ≤ length a.memory.heap
heap_only_grows code m frames a e =
    let x = sum_only_grows (λ o. 1) (λ old new same. refl) code m frames a e in
    let y = sum_of_ones m.heap in
    let z = sum_of_ones a.memory.heap in
    omega (arith, x, y, z)
