-- Each step of the three-address machine leaves ints that fit in words. A new int is a constant, the value of an operator, a length or
-- a capacity. All others were there before, and moved.
use Rattle.std.proofs.Common.{◌≡◌, ℕ, zero, suc, Bool, true, false, List, [], ◌∷◌, ◌++◌, map, drop, get_or, length, bytes_eq, codes, replicate, Option, Some, None, Result, Ok, Err, refl, sym, ap, subst, ℤ, pos, negsuc, nat_eq, nat_lt, if◌then◌else◌, arith, slice_get, slice_set, option_map, option_and_then}
use Rattle.std.proofs.lemmas.List.{length-replicate}
use Rattle.rgo_sound.specs.Ast.declared.ops.BinaryOp.{BinaryOp}
use Rattle.rgo_sound.specs.Ast.declared.ops.BinaryOp.TheVariants as binary
use Rattle.rgo_sound.specs.Typed.declared.actions.Action.{Action}
use Rattle.rgo_sound.specs.Typed.declared.actions.Action.TheVariants as action
use Rattle.rgo_sound.specs.Typed.declared.programs.Struct.{Struct}
use Rattle.rgo_sound.specs.Typed.declared.programs.Variable.{Variable}
use Rattle.rgo_sound.specs.Typed.declared.types.Base.{Base}
use Rattle.rgo_sound.specs.Typed.declared.types.Base.TheVariants as base
use Rattle.rgo_sound.specs.Typed.declared.types.Layer.{Layer}
use Rattle.rgo_sound.specs.Typed.declared.types.Type.{«Type»}
use Rattle.rgo_sound.specs.Memory.declared.traps.Trap.{Trap}
use Rattle.rgo_sound.specs.Memory.declared.traps.Trap.TheVariants.{IndexRange}
use Rattle.rgo_sound.specs.Memory.declared.values.Value.{Value}
use Rattle.rgo_sound.specs.Memory.declared.values.Value.TheVariants as value
use Rattle.rgo_sound.specs.Memory.Channels.{close, meets_at, receive, received, send, sent, shut}
use Rattle.rgo_sound.specs.Memory.Effects.{Does, Effect, Outcome, Traps, answered, at_object, at_object_if_ready, in_memory, in_memory_if_ready, to_object, to_object_if_ready}
use Rattle.rgo_sound.specs.Memory.Elements.{element, element_at, element_in, length_in, length_of, or_out_of_range, put, put_in}
use Rattle.rgo_sound.specs.Memory.Fields.{field_value, load, or_nil, store, store_outcome}
use Rattle.rgo_sound.specs.Memory.Making.{made, made_struct, new_channel, new_slice, sized}
use Rattle.rgo_sound.specs.Memory.Memory.{Channel, Memory, Object, SliceObject, StructObject}
use Rattle.rgo_sound.specs.Memory.Operators.{binary_of, inverted, is_equal, negated_value, nil_test, on_ints}
use Rattle.rgo_sound.specs.Memory.Perform.{on_none, on_one, on_three, on_two, perform, set_variable}
use Rattle.rgo_sound.specs.Memory.Values.{base_zero, element_zero, element_zero_in, zero_in, zero_of}
use Rattle.rgo_sound.specs.Machine.declared.picks.End.{End}
use Rattle.rgo_sound.specs.Machine.declared.picks.Pick.{Pick}
use Rattle.rgo_sound.specs.Machine.declared.picks.Pick.TheVariants.{Meet, One}
use Rattle.rgo_sound.specs.Machine.Machines.{AtReceive, AtSend, Stand, met, met_by, picked, unless_ended, with_frames}
use Rattle.rgo_sound.specs.Machine.Machines as machine
use Rattle.rgo_sound.specs.Tac.Code.{Branch as TacBranch, Call as TacCall, Do as TacDo, Go as TacGo, Instr, Jump as TacJump, Op, Print as TacPrint, Return as TacReturn, Tac, TacFn}
use Rattle.rgo_sound.specs.Tac.Frames.{TacFrame, assigned_variables, new_tac_frame, value_at, operand_values}
use Rattle.rgo_sound.specs.Tac.Steps.{instr_of, tac_resumed, resumed_at, tac_stand, target_of, destination_type}
use Rattle.rgo_sound.specs.Tac.Tac.{TacState, tac_main_frames, tac}
use Rattle.rgo_sound.specs.Code.Code.{Code, CodeFn, CodeInstr, CodeOp, Do}
use Rattle.rgo_sound.specs.Code.Erasure.{erased, erased_instr, erased_op}
use Rattle.rgo_sound.specs.RegionMachine.Machine.{Acknowledge, Attend, Event, Finish, Instruct, MakeOffer, TakePage, plain_step, region_step}
use Rattle.rgo_sound.specs.RegionMachine.Owed.{current, current_in}
use Rattle.rgo_sound.specs.RegionMachine.States.{RegionState}
use Rattle.rgo_sound.specs.Types.{Each}
use Rattle.rgo_sound.proofs.steps.Acting.{Acted, act, act_at, after, alone, alone_is, call, effected, performed, returned, silent, start, trap_place}
use Rattle.rgo_sound.proofs.plain.Steps.{Always, Follows, step_follows, yields_is}
use Rattle.rgo_sound.proofs.steps.OneStep.{ReceivesAt, SendsAt, StandsAt, current_erased, stands_at_channel}
use Rattle.rgo_sound.proofs.Places.{each_get, each_replicate, each_set, each_snoc, length_set}
use Rattle.rgo_core_frames.specs.shown.Ints.{FramesIntsFit, ValueFitsWord, IntsFit, IntsStay, MemoryIntsFit, ObjectIntsFit}
use Rattle.rgo_core_frames.specs.shown.Constants.{ConstantsFit}
use Rattle.rgo_core_frames.proofs.steps.Computing.{ConstantFits}
use Rattle.rgo_core_frames.proofs.shown.WordLemmas.{IsWord, ints_word, wrapped_fits}

-- ---- lists

each_append : {X : Type 0} (P : X → Type 0) (xs ys : List X) → Each P xs → Each P ys → Each P (xs ++ ys)
each_append P [] ys h k = k
each_append P (x ∷ xs) ys h k = (h.0, each_append P xs ys h.1 k)

each_drop : {X : Type 0} (P : X → Type 0) (n : ℕ) (xs : List X) → Each P xs → Each P (drop n xs)
each_drop P zero xs h = h
each_drop P (suc n) [] h = tt
each_drop P (suc n) (x ∷ xs) h = each_drop P n xs h.1

value_fits : (vs : List Value) (n : ℕ) → Each ValueFitsWord vs → ValueFitsWord (get_or vs n value.Nil)
value_fits [] n h = tt
value_fits (v ∷ vs) zero h = h.0
value_fits (v ∷ vs) (suc n) h = value_fits vs n h.1

-- ---- values

zero_fits : (ty : «Type») → ValueFitsWord (zero_of ty)
zero_fits ty = go ty.layers ty.base
  where
    at_base : (b : Base) → ValueFitsWord (base_zero b)
    at_base base.Int = record { sfits = omega arith }
    at_base base.Bool = tt
    at_base (base.Pointer n) = tt

    go : (ls : List Layer) (b : Base) → ValueFitsWord (zero_in ls b)
    go [] b = at_base b
    go (l ∷ ls) b = tt

element_zero_fits : (ty : «Type») → ValueFitsWord (element_zero ty)
element_zero_fits ty = go ty.layers ty.base
  where
    go : (ls : List Layer) (b : Base) → ValueFitsWord (element_zero_in ls b)
    go [] b = tt
    go (l ∷ ls) b = zero_fits (record { layers = ls; base = b })

zeros_fit : (tys : List «Type») → Each ValueFitsWord (map zero_of tys)
zeros_fit [] = tt
zeros_fit (ty ∷ tys) = (zero_fits ty, zeros_fit tys)

or_nil_fits : (o : Option Value) → ((v : Value) → o ≡ Some v → ValueFitsWord v) → ValueFitsWord (or_nil o)
or_nil_fits None h = tt
or_nil_fits (Some v) h = h v refl

negated_fits : (v : Value) → ValueFitsWord (negated_value v)
negated_fits (value.Int z) = wrapped_fits _
negated_fits _ = tt

inverted_fits : (v : Value) → ValueFitsWord (inverted v)
inverted_fits (value.Bool b) = tt
inverted_fits _ = tt

test_fits : (v : Value) → ValueFitsWord (nil_test v)
test_fits value.Nil = tt
test_fits (value.Object o) = tt
test_fits _ = tt

equal_fits : (op : BinaryOp) (same : Bool) → ValueFitsWord (is_equal op same)
equal_fits binary.Eq same = tt
equal_fits binary.Ne same = tt
equal_fits _ same = tt

word_fits : (v : Value) → IsWord v → ValueFitsWord v
word_fits (value.Int z) h = h
word_fits (value.Bool b) h = tt
word_fits value.Nil h = tt
word_fits (value.Object o) h = tt

-- a result that fits
abbrev AnswerFits : Result Value Trap → Type 0
AnswerFits (Ok v) = ValueFitsWord v
AnswerFits (Err trap) = Unit {0}

answer_fits : (r : Result Value Trap) → ((v : Value) → r ≡ Ok v → ValueFitsWord v) → AnswerFits r
answer_fits (Ok v) h = h v refl
answer_fits (Err trap) h = tt

binary_fits : (op : BinaryOp) (v w : Value) → ValueFitsWord v → AnswerFits (binary_of op v w)
binary_fits op (value.Int x) (value.Int y) h =
    answer_fits (on_ints op x y) (λ r e. word_fits r (ints_word op x y h r e))
binary_fits op (value.Bool a) (value.Bool b) h = equal_fits op _
binary_fits op (value.Object m) (value.Object n) h = equal_fits op _
binary_fits op value.Nil value.Nil h = equal_fits op _
binary_fits op value.Nil (value.Object n) h = equal_fits op _
binary_fits op (value.Object m) value.Nil h = equal_fits op _
binary_fits op _ _ h = tt

-- ---- actions

module _ (m : Memory) (fits : MemoryIntsFit m) where
  abbrev pub Keeps : Effect → Type 0
  Keeps (Does after v) = MemoryIntsFit after × ValueFitsWord v
  Keeps (Traps trap) = Unit {0}

  nothing_fits : MemoryIntsFit m × ValueFitsWord value.Nil
  nothing_fits = (fits, tt)

  answers : (r : Result Value Trap) → AnswerFits r → Keeps (answered m r)
  answers (Ok v) h = (fits, h)
  answers (Err trap) h = tt

  object_fits : (o : ℕ) (object : Object) → slice_get m.heap o ≡ Some object → ObjectIntsFit object
  object_fits o object e = each_get ObjectIntsFit m.heap o object fits.objects e

  -- an outcome for one object
  abbrev Changes : Outcome Object → Type 0
  Changes (Does object v) = ObjectIntsFit object × ValueFitsWord v
  Changes (Traps trap) = Unit {0}

  in_memory_fits : (o : ℕ) (outcome : Outcome Object) → Changes outcome → Keeps (in_memory m o outcome)
  in_memory_fits o (Does object v) h =
      (record { objects = each_set ObjectIntsFit m.heap o object fits.objects h.0; variables = fits.variables }, h.1)
  in_memory_fits o (Traps trap) h = tt

  at_object_fits : (o : ℕ) (f : Object → Outcome Object) → ((object : Object) → ObjectIntsFit object → Changes (f object))
      → Keeps (at_object m o f)
  at_object_fits o f h = go (slice_get m.heap o) refl
    where
      go : (x : Option Object) → slice_get m.heap o ≡ x → Keeps (to_object m o f x)
      go None e = nothing_fits
      go (Some object) e = in_memory_fits o (f object) (h object (object_fits o object e))

  if_ready_fits : (o : ℕ) (f : Object → Option (Outcome Object))
      → ((object : Object) → ObjectIntsFit object → Always Changes (f object)) → Always Keeps (at_object_if_ready m o f)
  if_ready_fits o f h = go (slice_get m.heap o) refl
    where
      by : (x : Option (Outcome Object)) → Always Changes x → Always Keeps (in_memory_if_ready m o x)
      by None k = tt
      by (Some outcome) k = in_memory_fits o outcome k

      go : (x : Option Object) → slice_get m.heap o ≡ x → Always Keeps (to_object_if_ready m o f x)
      go None e = nothing_fits
      go (Some object) e = by (f object) (h object (object_fits o object e))

  -- ---- fields

  field_fits : (x : Option Object) → ((object : Object) → x ≡ Some object → ObjectIntsFit object) → (k : ℕ)
      → ValueFitsWord (field_value x k)
  field_fits (Some (StructObject cells)) h k =
      or_nil_fits (slice_get cells k) (λ v e. each_get ValueFitsWord cells k v (h (StructObject cells) refl) e)
  field_fits _ h k = tt

  load_fits : (v : Value) (k : ℕ) → AnswerFits (load m v k)
  load_fits value.Nil k = tt
  load_fits (value.Object o) k = field_fits (slice_get m.heap o) (λ object e. object_fits o object e) k
  load_fits _ k = tt

  stored_fits : (k : ℕ) (w : Value) → ValueFitsWord w → (object : Object) → ObjectIntsFit object → Changes (store_outcome k w object)
  stored_fits k w g (StructObject cells) h = (each_set ValueFitsWord cells k w h g, tt)
  stored_fits k w g (SliceObject cells) h = (h, tt)
  stored_fits k w g (Channel capacity queue closed) h = (h, tt)

  store_fits : (v : Value) (k : ℕ) (w : Value) → ValueFitsWord w → Keeps (store m v k w)
  store_fits value.Nil k w g = tt
  store_fits (value.Object o) k w g = at_object_fits o (store_outcome k w) (stored_fits k w g)
  store_fits _ k w g = nothing_fits

  -- ---- elements

  range_fits : (o : Option Value) → ((v : Value) → o ≡ Some v → ValueFitsWord v) → AnswerFits (or_out_of_range o)
  range_fits None h = tt
  range_fits (Some v) h = h v refl

  cell_fits : (cells : List Value) → Each ValueFitsWord cells → (i : ℤ) → AnswerFits (element cells i)
  cell_fits cells h (pos i) = range_fits (slice_get cells i) (λ v e. each_get ValueFitsWord cells i v h e)
  cell_fits cells h (negsuc n) = tt

  element_in_fits : (x : Option Object) → ((object : Object) → x ≡ Some object → ObjectIntsFit object) → (i : ℤ)
      → AnswerFits (element_in x i)
  element_in_fits (Some (SliceObject cells)) h i = cell_fits cells (h (SliceObject cells) refl).0 i
  element_in_fits _ h i = tt

  element_fits : (v w : Value) → AnswerFits (element_at m v w)
  element_fits value.Nil (value.Int i) = tt
  element_fits (value.Object o) (value.Int i) = element_in_fits (slice_get m.heap o) (λ object e. object_fits o object e) i
  element_fits _ _ = tt

  length_in_fits : (x : Option Object) → ((object : Object) → x ≡ Some object → ObjectIntsFit object)
      → ValueFitsWord (length_in x)
  length_in_fits (Some (SliceObject cells)) h = (h (SliceObject cells) refl).1
  length_in_fits _ h = tt

  length_fits : (v : Value) → ValueFitsWord (length_of m v)
  length_fits value.Nil = record { sfits = omega arith }
  length_fits (value.Object o) = length_in_fits (slice_get m.heap o) (λ object e. object_fits o object e)
  length_fits _ = tt

  put_in_fits : (i : ℤ) (w : Value) → ValueFitsWord w → (object : Object) → ObjectIntsFit object → Changes (put_in i w object)
  put_in_fits (pos i) w g (SliceObject cells) h = by (nat_lt i (length cells))
    where
      by : (b : Bool) → Changes (if b then Does (SliceObject (slice_set cells i w)) value.Nil else Traps IndexRange)
      by true = (
        (
          each_set ValueFitsWord cells i w h.0 g,
          subst (λ n. ValueFitsWord (value.Int (pos n))) (sym (length_set cells i w)) h.1,
        ),
        tt,
      )
      by false = tt
  put_in_fits (negsuc n) w g (SliceObject cells) h = tt
  put_in_fits i w g (StructObject cells) h = (h, tt)
  put_in_fits i w g (Channel capacity queue closed) h = (h, tt)

  put_fits : (u v w : Value) → ValueFitsWord w → Keeps (put m u v w)
  put_fits value.Nil (value.Int i) w g = tt
  put_fits (value.Object o) (value.Int i) w g = at_object_fits o (put_in i w) (put_in_fits i w g)
  put_fits _ _ w g = nothing_fits

  -- ---- new objects

  made_fits : (object : Object) → ObjectIntsFit object → Keeps (made m object)
  made_fits object h =
      (record { objects = each_snoc ObjectIntsFit m.heap object fits.objects h; variables = fits.variables }, tt)

  new_fits : (x : Option Struct) → Keeps (made_struct x m)
  new_fits None = nothing_fits
  new_fits (Some s) = made_fits (StructObject (map zero_of s.fields)) (zeros_fit s.fields)

  sized_fits : (object : ℕ → Object) → ((n : ℕ) → ValueFitsWord (value.Int (pos n)) → ObjectIntsFit (object n)) → (v : Value)
      → ValueFitsWord v → Keeps (sized object v m)
  sized_fits object f (value.Int (pos n)) h = made_fits (object n) (f n h)
  sized_fits object f (value.Int (negsuc n)) h = tt
  sized_fits object f _ h = nothing_fits

  slice_fits : (ty : «Type») (v : Value) → ValueFitsWord v → Keeps (new_slice ty v m)
  slice_fits ty = sized_fits (λ n. SliceObject (replicate n (element_zero ty))) (λ n h. (
    each_replicate ValueFitsWord n (element_zero ty) (element_zero_fits ty),
    subst (λ k. ValueFitsWord (value.Int (pos k))) (sym (length-replicate n (element_zero ty))) h,
  ))

  channel_fits : (v : Value) → ValueFitsWord v → Keeps (new_channel v m)
  channel_fits = sized_fits (λ n. Channel n [] false) (λ n h. (tt, h))

  set_fits : (n : ℕ) (v : Value) → ValueFitsWord v → Keeps (set_variable n v m)
  set_fits n v h =
      (record { objects = fits.objects; variables = each_set ValueFitsWord m.variables n v fits.variables h }, tt)

  -- ---- channels

  received_fits : (blank : Value) → ValueFitsWord blank → (object : Object) → ObjectIntsFit object
      → Always Changes (received blank object)
  received_fits blank g (Channel capacity (v ∷ queue) closed) h = ((h.0.1, h.1), h.0.0)
  received_fits blank g (Channel capacity [] true) h = (h, g)
  received_fits blank g (Channel capacity [] false) h = tt
  received_fits blank g (StructObject cells) h = (h, tt)
  received_fits blank g (SliceObject cells) h = (h, tt)

  receive_fits : (v blank : Value) → ValueFitsWord blank → Always Keeps (receive m v blank)
  receive_fits value.Nil blank g = tt
  receive_fits (value.Object o) blank g = if_ready_fits o (received blank) (received_fits blank g)
  receive_fits (value.Int n) blank g = nothing_fits
  receive_fits (value.Bool b) blank g = nothing_fits

  silent_fits : (e : Option Effect) → Always Keeps e → Always Keeps (option_map silent e)
  silent_fits None h = tt
  silent_fits (Some (Does after v)) h = (h.0, tt)
  silent_fits (Some (Traps trap)) h = tt

  sent_fits : (v : Value) → ValueFitsWord v → (object : Object) → ObjectIntsFit object → Always Changes (sent v object)
  sent_fits v g (Channel capacity queue true) h = tt
  sent_fits v g (Channel capacity queue false) h = by (nat_lt (length queue) capacity)
    where
      by : (b : Bool)
          → Always Changes (if b then Some (Does (Channel capacity (queue ++ v ∷ []) false) value.Nil) else None)
      by true = ((each_snoc ValueFitsWord queue v h.0 g, h.1), tt)
      by false = tt
  sent_fits v g (StructObject cells) h = (h, tt)
  sent_fits v g (SliceObject cells) h = (h, tt)

  send_fits : (c v : Value) → ValueFitsWord v → Always Keeps (send m c v)
  send_fits value.Nil v g = tt
  send_fits (value.Object o) v g = if_ready_fits o (sent v) (sent_fits v g)
  send_fits (value.Int n) v g = nothing_fits
  send_fits (value.Bool b) v g = nothing_fits

  shut_fits : (object : Object) → ObjectIntsFit object → Changes (shut object)
  shut_fits (Channel capacity queue true) h = tt
  shut_fits (Channel capacity queue false) h = (h, tt)
  shut_fits (StructObject cells) h = (h, tt)
  shut_fits (SliceObject cells) h = (h, tt)

  close_fits : (c : Value) → Keeps (close m c)
  close_fits value.Nil = tt
  close_fits (value.Object o) = at_object_fits o shut shut_fits
  close_fits (value.Int n) = nothing_fits
  close_fits (value.Bool b) = nothing_fits

  -- ---- each action, by its operands

  module _ (structs : List Struct) where
    none_fits : (a : Action) → ConstantFits a → Keeps (on_none structs a m)
    none_fits (action.Int k) c = (fits, c)
    none_fits (action.New n) c = new_fits (slice_get structs n)
    none_fits (action.Get n) c =
        (fits, or_nil_fits (slice_get m.variables n) (λ v e. each_get ValueFitsWord m.variables n v fits.variables e))
    none_fits _ c = nothing_fits

    one_fits : (a : Action) (ty : «Type») (v : Value) → ValueFitsWord v → Keeps (on_one a ty v m)
    one_fits action.Copy ty v h = (fits, h)
    one_fits action.Neg ty v h = (fits, negated_fits v)
    one_fits action.Not ty v h = (fits, inverted_fits v)
    one_fits action.IsNil ty v h = (fits, test_fits v)
    one_fits action.Len ty v h = (fits, length_fits v)
    one_fits (action.Load k) ty v h = answers (load m v k) (load_fits v k)
    one_fits action.Slice ty v h = slice_fits ty v h
    one_fits action.Chan ty v h = channel_fits v h
    one_fits (action.Set n) ty v h = set_fits n v h
    one_fits _ ty v h = nothing_fits

    two_fits : (a : Action) (v w : Value) → ValueFitsWord v → ValueFitsWord w → Keeps (on_two a v w m)
    two_fits (action.Binary op) v w h k = answers (binary_of op v w) (binary_fits op v w h)
    two_fits (action.Store n) v w h k = store_fits v n w k
    two_fits action.At v w h k = answers (element_at m v w) (element_fits v w)
    two_fits _ v w h k = nothing_fits

    three_fits : (a : Action) (u v w : Value) → ValueFitsWord w → Keeps (on_three a u v w m)
    three_fits action.Put u v w h = put_fits u v w h
    three_fits _ u v w h = nothing_fits

    performs : (a : Action) (ty : «Type») (vs : List Value) → ConstantFits a → Each ValueFitsWord vs
        → Keeps (perform structs a ty vs m)
    performs a ty [] c h = none_fits a c
    performs a ty (v ∷ []) c h = one_fits a ty v h.0
    performs a ty (v ∷ w ∷ []) c h = two_fits a v w h.0 h.1.0
    performs a ty (u ∷ v ∷ w ∷ []) c h = three_fits a u v w h.1.1.0
    performs a ty (u ∷ v ∷ w ∷ x ∷ vs) c h = nothing_fits

    pub performed_fits : (a : Action) (ty : «Type») (vs : List Value) → ConstantFits a → Each ValueFitsWord vs
        → Always Keeps (performed structs a ty vs m)
    performed_fits action.Recv ty (v ∷ []) c h = receive_fits v (zero_of ty) (zero_fits ty)
    performed_fits action.Send ty (v ∷ w ∷ []) c h = silent_fits (send m v w) (send_fits v w h.1.0)
    performed_fits action.Close ty (v ∷ []) c h = silent_fits (Some (close m v)) (close_fits v)
    performed_fits a ty vs c h = performs a ty vs c h

-- ---- frames

abbrev FrameIntsFit : TacFrame → Type 0
FrameIntsFit f = Each ValueFitsWord f.variables

values_fit : (frame : TacFrame) (from : List ℕ) → FrameIntsFit frame → Each ValueFitsWord (operand_values frame from)
values_fit frame [] h = tt
values_fit frame (v ∷ vs) h = (value_fits frame.variables v h, values_fit frame vs h)

assigned_fits : (variables : List Value) (to : Option ℕ) (v : Value) → Each ValueFitsWord variables → ValueFitsWord v
    → Each ValueFitsWord (assigned_variables variables to v)
assigned_fits variables None v h g = h
assigned_fits variables (Some d) v h g = each_set ValueFitsWord variables d v h g

called_fits : (fn : TacFn) (n : ℕ) (arguments : List Value) → Each ValueFitsWord arguments
    → FrameIntsFit (new_tac_frame fn n arguments)
called_fits fn n arguments h =
    each_append ValueFitsWord arguments (drop (length arguments) (map zero_of fn.variables)) h
    (each_drop ValueFitsWord (length arguments) (map zero_of fn.variables) (zeros_fit fn.variables))

resumed_fits : (code : Tac) (caller : TacFrame) (value : Option Value) → FrameIntsFit caller → Always ValueFitsWord value
    → FrameIntsFit (tac_resumed code caller value)
resumed_fits code caller value h g = go (instr_of code caller) value g
  where
    go : (i : Option Instr) (value : Option Value) → Always ValueFitsWord value → FrameIntsFit (resumed_at caller i value)
    go None value g = h
    go (Some i) None g = h
    go (Some i) (Some v) g = assigned_fits caller.variables (target_of i.op) v h g

-- the step of one goroutine
abbrev ActedFits : Acted → Type 0
ActedFits a = MemoryIntsFit a.memory × FramesIntsFit a.frames × Each FramesIntsFit a.started

-- the constant of an instruction fits
abbrev ConstantOf : Op → Type 0
ConstantOf (TacDo to action from) = ConstantFits action
ConstantOf _ = Unit {0}

module _ (code : Tac) (m : Memory) (fits : MemoryIntsFit m) (frame : TacFrame) (callers : List TacFrame)
    (here : FrameIntsFit frame) (below : FramesIntsFit callers) where
  effected_fits : (to : Option ℕ) (place : ℕ) (e : Option Effect) → Always (Keeps m fits) e
      → Always ActedFits (effected m frame callers to place e)
  effected_fits to place None h = tt
  effected_fits to place (Some (Does after v)) h = (h.0, (assigned_fits frame.variables to v here h.1, below), tt)
  effected_fits to place (Some (Traps trap)) h = (fits, (here, below), tt)

  call_fits : (n : ℕ) (arguments : List Value) (fn : Option TacFn) → Each ValueFitsWord arguments
      → Always ActedFits (call m frame callers n arguments fn)
  call_fits n arguments None h = (fits, (here, below), tt)
  call_fits n arguments (Some fn) h = (fits, (called_fits fn n arguments h, (here, below)), tt)

  start_fits : (n : ℕ) (arguments : List Value) (fn : Option TacFn) → Each ValueFitsWord arguments
      → Always ActedFits (start m frame callers n arguments fn)
  start_fits n arguments None h = (fits, (here, below), tt)
  start_fits n arguments (Some fn) h = (fits, (here, below), ((called_fits fn n arguments h, tt), tt))

  returned_fits : (value : Option Value) (callers : List TacFrame) → Always ValueFitsWord value → FramesIntsFit callers
      → Always ActedFits (returned code m value callers)
  returned_fits value [] g h = (fits, tt, tt)
  returned_fits value (caller ∷ callers) g h = (fits, (resumed_fits code caller value h.0 g, h.1), tt)

  result_fits : (value : Option ℕ) → Always ValueFitsWord (option_map (value_at frame) value)
  result_fits None = tt
  result_fits (Some v) = value_fits frame.variables v here

  act_fits : (op : Op) (place : ℕ) → ConstantOf op → Always ActedFits (act code m op place frame callers)
  act_fits (TacDo to action from) place c =
      effected_fits to (trap_place action place)
      (performed code.structs action (destination_type code frame to) (operand_values frame from) m)
      (performed_fits m fits code.structs action (destination_type code frame to) (operand_values frame from) c
      (values_fit frame from here))
  act_fits (TacCall to n from) place c =
      call_fits n (operand_values frame from) (slice_get code.functions n) (values_fit frame from here)
  act_fits (TacGo n from) place c =
      start_fits n (operand_values frame from) (slice_get code.functions n) (values_fit frame from here)
  act_fits (TacPrint pieces from) place c = (fits, (here, below), tt)
  act_fits (TacJump target) place c = (fits, (here, below), tt)
  act_fits (TacBranch test target other) place c = (fits, (here, below), tt)
  act_fits (TacReturn value) place c = returned_fits (option_map (value_at frame) value) callers (result_fits value) below

module _ (code : Code) (constants : ConstantsFit code) where
  constant : (frame : TacFrame) (instr : CodeInstr) → current code frame ≡ Some instr → ConstantOf (erased_op instr.op)
  constant frame instr cur = by_function (slice_get code.functions frame.function) refl cur
    where
      by_action : (fn : CodeFn) → slice_get code.functions frame.function ≡ Some fn → slice_get fn.body frame.next ≡ Some instr
          → (to : Option ℕ) (a : Action) (from removes : List ℕ) → instr.op ≡ Do to a from removes → ConstantFits a
      by_action fn q e to (action.Int k) from removes is =
          constants frame.function frame.next fn instr to k from removes q e is
      by_action fn q e to _ from removes is = tt

      by_op : (fn : CodeFn) → slice_get code.functions frame.function ≡ Some fn → slice_get fn.body frame.next ≡ Some instr
          → (op : CodeOp) → instr.op ≡ op → ConstantOf (erased_op op)
      by_op fn q e (Do to action from removes) is = by_action fn q e to action from removes is
      by_op fn q e _ is = tt

      by_function : (fn : Option CodeFn) → slice_get code.functions frame.function ≡ fn
          → current_in fn frame.next ≡ Some instr → ConstantOf (erased_op instr.op)
      by_function None q e = cc
      by_function (Some fn) q e = by_op fn q e instr.op refl

  alone_fits : (m : Memory) (frames : List TacFrame) → MemoryIntsFit m → FramesIntsFit frames
      → Always ActedFits (alone (erased code) m frames)
  alone_fits m [] fits all = tt
  alone_fits m (frame ∷ callers) fits all =
      subst (λ o. Always ActedFits (act_at (erased code) m o frame callers)) (sym (current_erased code frame))
      (go (current code frame) refl)
    where
      go : (o : Option CodeInstr) → current code frame ≡ o
          → Always ActedFits (act_at (erased code) m (option_map erased_instr o) frame callers)
      go None q = (fits, all, tt)
      go (Some instr) q =
          act_fits (erased code) m fits frame callers all.0 all.1 (erased_op instr.op) instr.place
          (constant frame instr q)

  -- ---- all goroutines

  after_fits : (p : TacState) (g : ℕ) → IntsFit p → (a : Acted) → ActedFits a → IntsFit (after p g a)
  after_fits p g t a h = record {
    memory = h.0;
    frames =
        each_append FramesIntsFit (slice_set p.goroutines g a.frames) a.started
        (each_set FramesIntsFit p.goroutines g a.frames t.frames h.1) h.2;
  }

  one_step : (p : TacState) (g : ℕ) → p.ended ≡ None → IntsFit p → Always IntsFit (picked (tac (erased code)) p (One g))
  one_step p g running t = go (slice_get p.goroutines g) refl
    where
      by : (o : Option Acted) → Always ActedFits o → Always IntsFit (option_map (after p g) o)
      by None h = tt
      by (Some a) h = after_fits p g t a h

      go : (o : Option (List TacFrame)) → slice_get p.goroutines g ≡ o
          → Always IntsFit (option_and_then (machine.alone (tac (erased code)) p g) o)
      go None q = tt
      go (Some frames) q =
          subst (Always IntsFit) (sym (alone_is (erased code) p g running frames q))
          (by (alone (erased code) p.memory frames)
          (alone_fits p.memory frames t.memory (each_get FramesIntsFit p.goroutines g frames t.frames q)))

  -- a receiver has the value that a sender sends
  received_by : (frames : List TacFrame) (c : Value) (go_on : Value → List TacFrame) → FramesIntsFit frames
      → ReceivesAt code frames c go_on → (v : Value) → ValueFitsWord v → FramesIntsFit (go_on v)
  received_by frames c go_on all x v h =
      let all' : FramesIntsFit (x.frame ∷ x.callers) = subst FramesIntsFit x.at all in
      subst FramesIntsFit (sym (x.goes v)) (assigned_fits x.frame.variables x.to v all'.0 h, all'.1)

  sent_by : (frames : List TacFrame) (c v : Value) (next : List TacFrame) → FramesIntsFit frames → SendsAt code frames c v next
      → ValueFitsWord v × FramesIntsFit next
  sent_by frames c v next all x =
      let all' : FramesIntsFit (x.frame ∷ x.callers) = subst FramesIntsFit x.at all in (
        subst ValueFitsWord (sym x.sent_is) (value_fits x.frame.variables x.sent all'.0),
        subst FramesIntsFit (sym x.goes) (assigned_fits x.frame.variables x.to value.Nil all'.0 tt, all'.1),
      )

  meet_step : (p : TacState) (r u : ℕ) → IntsFit p → Always IntsFit (picked (tac (erased code)) p (Meet r u))
  meet_step p r u t = go (nat_eq r u) (slice_get p.goroutines r) refl (slice_get p.goroutines u) refl
    where
      meets : (f : TacFrame) (fs : List TacFrame) → slice_get p.goroutines r ≡ Some (f ∷ fs)
          → (h : TacFrame) (hs : List TacFrame) → slice_get p.goroutines u ≡ Some (h ∷ hs) → (x y : Stand TacFrame)
          → StandsAt code f fs x → StandsAt code h hs y → Always IntsFit (met p r u fs hs x y)
      meets f fs q h hs q' (AtReceive c blank go_on) (AtSend d v place next) xs ys = by (meets_at p.memory c d)
        where
          s : ValueFitsWord v × FramesIntsFit (next ∷ hs)
          s = sent_by (h ∷ hs) d v (next ∷ hs) (each_get FramesIntsFit p.goroutines u (h ∷ hs) t.frames q') ys

          n : FramesIntsFit (go_on v ∷ fs)
          n = received_by (f ∷ fs) c (λ w. go_on w ∷ fs) (each_get FramesIntsFit p.goroutines r (f ∷ fs) t.frames q) xs
              v s.0

          by : (b : Bool)
              → Always IntsFit (if b then Some (with_frames (with_frames p r (go_on v ∷ fs)) u (next ∷ hs)) else None)
          by true = record {
            memory = t.memory;
            frames =
                each_set FramesIntsFit (slice_set p.goroutines r (go_on v ∷ fs)) u (next ∷ hs)
                (each_set FramesIntsFit p.goroutines r (go_on v ∷ fs) t.frames n) s.1;
          }
          by false = tt
      meets f fs q h hs q' _ _ xs ys = tt

      both : (fs : List TacFrame) → slice_get p.goroutines r ≡ Some fs → (hs : List TacFrame)
          → slice_get p.goroutines u ≡ Some hs → Always IntsFit (met_by (tac (erased code)) p r u fs hs)
      both [] q hs q' = tt
      both (f ∷ fs) q [] q' = tt
      both (f ∷ fs) q (h ∷ hs) q' =
          meets f fs q h hs q' (tac_stand (erased code) f) (tac_stand (erased code) h) (stands_at_channel code f fs)
          (stands_at_channel code h hs)

      go : (b : Bool) → (o : Option (List TacFrame)) → slice_get p.goroutines r ≡ o
          → (o' : Option (List TacFrame)) → slice_get p.goroutines u ≡ o'
          → Always IntsFit (if b then None else option_and_then
          (λ fs. option_and_then (met_by (tac (erased code)) p r u fs) o') o)
      go true o q o' q' = tt
      go false None q o' q' = tt
      go false (Some fs) q None q' = tt
      go false (Some fs) q (Some hs) q' = both fs q hs q'

  pick_fits : (p : TacState) (pick : Pick) → IntsFit p → Always IntsFit (plain_step code p pick)
  pick_fits p pick t = go p.ended refl
    where
      by : p.ended ≡ None → (pick : Pick) → Always IntsFit (picked (tac (erased code)) p pick)
      by running (One g) = one_step p g running t
      by running (Meet r u) = meet_step p r u t

      go : (ended : Option End) → p.ended ≡ ended
          → Always IntsFit (unless_ended ended (picked (tac (erased code)) p pick))
      go None e = by e pick
      go (Some x) e = tt

  -- ---- events

  same_plain : (p q : TacState) → q.memory ≡ p.memory → q.goroutines ≡ p.goroutines → IntsFit p → IntsFit q
  same_plain p q m gs t = record {
    memory = subst MemoryIntsFit (sym m) t.memory;
    frames = subst (Each FramesIntsFit) (sym gs) t.frames;
  }

  event_fits : (page_words : ℕ) (s t : RegionState) (event : Event) → IntsFit s.plain → Follows code page_words s event t
      → IntsFit t.plain
  event_fits page_words s t (Instruct pick) h (next, e, i) =
      same_plain next t.plain (ap (λ (p : TacState). p.memory) i.plain) (ap (λ (p : TacState). p.goroutines) i.plain)
      (subst (Always IntsFit) e (pick_fits s.plain pick h))
  event_fits page_words s t (Finish limit) h f = subst IntsFit (sym f.0) h
  event_fits page_words s t (Attend g) h f = subst IntsFit (sym f.plain) h
  event_fits page_words s t (TakePage g) h f = subst IntsFit (sym f.plain) h
  event_fits page_words s t (MakeOffer g) h f = subst IntsFit (sym f.plain) h
  event_fits page_words s t (Acknowledge g) h f = subst IntsFit (sym f.plain) h

-- the first state
main_fits : (fns : List TacFn) (n : ℕ) → FramesIntsFit (tac_main_frames fns n)
main_fits [] n = tt
main_fits (fn ∷ fns) n = by (bytes_eq fn.name (codes "main")) (main_fits fns (suc n))
  where
    by : (b : Bool) → FramesIntsFit (tac_main_frames fns (suc n))
        → FramesIntsFit (if b then new_tac_frame fn n [] ∷ [] else tac_main_frames fns (suc n))
    by true h = (called_fits fn n [] tt, tt)
    by false h = h

variables_fit : (variables : List Variable) → Each ValueFitsWord (map (λ (v : Variable). zero_of v.ty) variables)
variables_fit [] = tt
variables_fit (v ∷ vs) = (zero_fits v.ty, variables_fit vs)

pub ints_stay : IntsStay
ints_stay = record {
  start = λ code. record {
    memory = record { objects = tt; variables = variables_fit code.variables };
    frames = (main_fits (erased code).functions 0, tt);
  };
  step = λ code page_words s t event constants h e.
      event_fits code constants page_words s t event h
      (yields_is (region_step code page_words s event) t (step_follows code page_words s event) e);
}
