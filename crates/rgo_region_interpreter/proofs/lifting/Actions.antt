-- What actions do over what the code keeps of the memory is what they do over the whole memory, if they touch no object of a removed
-- region. An action looks at no object but the one that it touches, so the missing contents of the others cannot matter.
use Rattle.std.proofs.Common.{◌≡◌, ℕ, ◌≤◌, false, List, [], ◌∷◌, length, Option, Some, None, refl, sym, ap, ◌∙◌}
use Rattle.std.proofs.Common.{subst, arith, option_map, slice_get, replicate}
use Rattle.std.specs.Prelude.{Result, Ok, Err, pos, negsuc}
use Rattle.rgo_typed.specs.declared.actions.Action.{Action}
use Rattle.rgo_typed.specs.declared.actions.Action.TheVariants as action
use Rattle.rgo_typed.specs.declared.programs.Struct.{Struct}
use Rattle.rgo_typed.specs.declared.types.Type.{«Type»}
use Rattle.rgo_memory.specs.declared.traps.Trap.{Trap}
use Rattle.rgo_memory.specs.declared.values.Value.{Value}
use Rattle.rgo_memory.specs.declared.values.Value.TheVariants as value
use Rattle.rgo_memory.specs.Channels.{close, receive, received, send, sent, shut}
use Rattle.rgo_memory.specs.Effects.{Does, Effect, Outcome, Traps, answered, at_object, at_object_if_ready, in_memory}
use Rattle.rgo_memory.specs.Effects.{in_memory_if_ready, to_object, to_object_if_ready}
use Rattle.rgo_memory.specs.Elements.{element_at, element_in, length_in, length_of, put, put_in}
use Rattle.rgo_memory.specs.Fields.{field_value, load, or_nil, store, store_outcome}
use Rattle.rgo_memory.specs.Making.{made, made_struct, sized}
use Rattle.rgo_memory.specs.Memory.{Channel, Memory, Object, SliceObject}
use Rattle.rgo_memory.specs.Operators.{binary_of, inverted, negated_value, nil_test}
use Rattle.rgo_memory.specs.Perform.{on_none, on_one, on_three, on_two, perform, set_variable}
use Rattle.rgo_memory.specs.Values.{element_zero, zero_of}
use Rattle.rgo_region_machine.specs.declared.regions.Region.{Region}
use Rattle.rgo_region_machine.specs.Objects.{touched_by}
use Rattle.rgo_region_machine.specs.Regions.{RegionInfo}
use Rattle.rgo_sound.proofs.steps.Acting.{performed, silent}
use Rattle.rgo_region_interpreter.specs.Tables.{kept_memory}
use Rattle.rgo_region_interpreter.proofs.lifting.Memory.{IsSafe, Steady, kept_get, kept_length, kept_push, kept_set}
use Rattle.rgo_region_interpreter.proofs.lifting.Memory.{push_steady, stays_steady, write_steady}

module _ (regions : List RegionInfo) (owners : List Region) where
  -- what is left, without what is not kept
  abbrev pub lifted : Effect → Effect
  lifted (Does n v) = Does (kept_memory regions owners n) v
  lifted (Traps trap) = Traps trap

  abbrev pub SteadyIn : Memory → Effect → Type 0
  SteadyIn m (Does n v) = Steady regions owners m n
  SteadyIn m (Traps trap) = Unit {0}

  abbrev pub SteadyIf : Memory → Option Effect → Type 0
  SteadyIf m None = Unit {0}
  SteadyIf m (Some effect) = SteadyIn m effect

  -- the effect over the whole memory m, and that over what is kept of it
  pub record Alike (m : Memory) (whole kept : Effect) : Type 0 where
    pub is : kept ≡ lifted whole
    pub steady : SteadyIn m whole

  pub record AlikeIf (m : Memory) (whole kept : Option Effect) : Type 0 where
    pub is : kept ≡ option_map lifted whole
    pub steady : SteadyIf m whole

  -- a pointer leads to an object that is kept
  abbrev pub IsSafeValue : Value → Type 0
  IsSafeValue (value.Int i) = Unit {0}
  IsSafeValue (value.Bool b) = Unit {0}
  IsSafeValue value.Nil = Unit {0}
  IsSafeValue (value.Object o) = IsSafe regions owners o

  -- what an action touches is kept
  abbrev pub TouchesSafe : Action → List Value → Type 0
  TouchesSafe action values = (o : ℕ) → touched_by action values ≡ Some o → IsSafe regions owners o

  touched_safe : (a : Action) (v : Value) (vs : List Value)
      → ((o : ℕ) → touched_by a (value.Object o ∷ vs) ≡ Some o) → TouchesSafe a (v ∷ vs) → IsSafeValue v
  touched_safe a (value.Int i) vs is t = tt
  touched_safe a (value.Bool b) vs is t = tt
  touched_safe a value.Nil vs is t = tt
  touched_safe a (value.Object o) vs is t = t o (is o)

  module _ (m : Memory) (fits : length owners ≤ length m.heap) where
    abbrev rest : Memory
    rest = kept_memory regions owners m

    -- ---- what only reads

    reads : (v : Value) → Alike m (Does m v) (Does rest v)
    reads v = record { is = refl; steady = stays_steady regions owners m }

    reads_same : (v w : Value) → w ≡ v → Alike m (Does m v) (Does rest w)
    reads_same v w e = subst (λ x. Alike m (Does m v) (Does rest x)) (sym e) (reads v)

    answers : (a : Result Value Trap) → Alike m (answered m a) (answered rest a)
    answers (Ok v) = reads v
    answers (Err trap) = record { is = refl; steady = tt }

    length_alike : (v : Value) → IsSafeValue v → Alike m (Does m (length_of m v)) (Does rest (length_of rest v))
    length_alike (value.Int i) safe = reads value.Nil
    length_alike (value.Bool b) safe = reads value.Nil
    length_alike value.Nil safe = reads (value.Int (pos 0))
    length_alike (value.Object o) safe =
        reads_same (length_in (slice_get m.heap o)) (length_in (slice_get rest.heap o))
        (ap length_in (kept_get regions owners m.heap o safe))

    load_alike : (v : Value) (k : ℕ) → IsSafeValue v → Alike m (answered m (load m v k)) (answered rest (load rest v k))
    load_alike (value.Int i) k safe = reads value.Nil
    load_alike (value.Bool b) k safe = reads value.Nil
    load_alike value.Nil k safe = record { is = refl; steady = tt }
    load_alike (value.Object o) k safe =
        reads_same (field_value (slice_get m.heap o) k) (field_value (slice_get rest.heap o) k)
        (ap (λ object. field_value object k) (kept_get regions owners m.heap o safe))

    element_alike : (v i : Value) → IsSafeValue v
        → Alike m (answered m (element_at m v i)) (answered rest (element_at rest v i))
    element_alike (value.Int n) i safe = reads value.Nil
    element_alike (value.Bool b) i safe = reads value.Nil
    element_alike value.Nil (value.Int i) safe = record { is = refl; steady = tt }
    element_alike value.Nil (value.Bool b) safe = reads value.Nil
    element_alike value.Nil value.Nil safe = reads value.Nil
    element_alike value.Nil (value.Object o) safe = reads value.Nil
    element_alike (value.Object o) (value.Int i) safe =
        subst (λ object. Alike m (answered m (element_in (slice_get m.heap o) i)) (answered rest (element_in object i)))
        (sym (kept_get regions owners m.heap o safe)) (answers (element_in (slice_get m.heap o) i))
    element_alike (value.Object o) (value.Bool b) safe = reads value.Nil
    element_alike (value.Object o) value.Nil safe = reads value.Nil
    element_alike (value.Object o) (value.Object p) safe = reads value.Nil

    -- ---- what is done to one object

    in_one : (n : ℕ) (outcome : Outcome Object) → IsSafe regions owners n
        → Alike m (in_memory m n outcome) (in_memory rest n outcome)
    in_one n (Does object v) safe = record {
      is = ap (λ heap. Does (record m { heap = heap }) v) (kept_set regions owners m.heap n object safe);
      steady = write_steady regions owners m n object safe;
    }
    in_one n (Traps trap) safe = record { is = refl; steady = tt }

    to_one : (n : ℕ) (f : Object → Outcome Object) (o : Option Object) → IsSafe regions owners n
        → Alike m (to_object m n f o) (to_object rest n f o)
    to_one n f None safe = reads value.Nil
    to_one n f (Some object) safe = in_one n (f object) safe

    at_one : (n : ℕ) (f : Object → Outcome Object) → IsSafe regions owners n
        → Alike m (at_object m n f) (at_object rest n f)
    at_one n f safe =
        subst (λ o. Alike m (at_object m n f) (to_object rest n f o)) (sym (kept_get regions owners m.heap n safe))
        (to_one n f (slice_get m.heap n) safe)

    does : {whole kept : Effect} → Alike m whole kept → AlikeIf m (Some whole) (Some kept)
    does x = record { is = ap Some x.is; steady = x.steady }

    in_one_if : (n : ℕ) (o : Option (Outcome Object)) → IsSafe regions owners n
        → AlikeIf m (in_memory_if_ready m n o) (in_memory_if_ready rest n o)
    in_one_if n None safe = record { is = refl; steady = tt }
    in_one_if n (Some outcome) safe = does (in_one n outcome safe)

    to_one_if : (n : ℕ) (f : Object → Option (Outcome Object)) (o : Option Object) → IsSafe regions owners n
        → AlikeIf m (to_object_if_ready m n f o) (to_object_if_ready rest n f o)
    to_one_if n f None safe = does (reads value.Nil)
    to_one_if n f (Some object) safe = in_one_if n (f object) safe

    at_one_if : (n : ℕ) (f : Object → Option (Outcome Object)) → IsSafe regions owners n
        → AlikeIf m (at_object_if_ready m n f) (at_object_if_ready rest n f)
    at_one_if n f safe =
        subst (λ o. AlikeIf m (at_object_if_ready m n f) (to_object_if_ready rest n f o))
        (sym (kept_get regions owners m.heap n safe)) (to_one_if n f (slice_get m.heap n) safe)

    store_alike : (v : Value) (k : ℕ) (w : Value) → IsSafeValue v → Alike m (store m v k w) (store rest v k w)
    store_alike (value.Int i) k w safe = reads value.Nil
    store_alike (value.Bool b) k w safe = reads value.Nil
    store_alike value.Nil k w safe = record { is = refl; steady = tt }
    store_alike (value.Object n) k w safe = at_one n (store_outcome k w) safe

    put_alike : (u v w : Value) → IsSafeValue u → Alike m (put m u v w) (put rest u v w)
    put_alike (value.Int i) v w safe = reads value.Nil
    put_alike (value.Bool b) v w safe = reads value.Nil
    put_alike value.Nil (value.Int i) w safe = record { is = refl; steady = tt }
    put_alike value.Nil (value.Bool b) w safe = reads value.Nil
    put_alike value.Nil value.Nil w safe = reads value.Nil
    put_alike value.Nil (value.Object o) w safe = reads value.Nil
    put_alike (value.Object n) (value.Int i) w safe = at_one n (put_in i w) safe
    put_alike (value.Object n) (value.Bool b) w safe = reads value.Nil
    put_alike (value.Object n) value.Nil w safe = reads value.Nil
    put_alike (value.Object n) (value.Object o) w safe = reads value.Nil

    -- ---- channels

    receive_alike : (c blank : Value) → IsSafeValue c → AlikeIf m (receive m c blank) (receive rest c blank)
    receive_alike (value.Int i) blank safe = does (reads value.Nil)
    receive_alike (value.Bool b) blank safe = does (reads value.Nil)
    receive_alike value.Nil blank safe = record { is = refl; steady = tt }
    receive_alike (value.Object n) blank safe = at_one_if n (received blank) safe

    send_alike : (c v : Value) → IsSafeValue c → AlikeIf m (send m c v) (send rest c v)
    send_alike (value.Int i) v safe = does (reads value.Nil)
    send_alike (value.Bool b) v safe = does (reads value.Nil)
    send_alike value.Nil v safe = record { is = refl; steady = tt }
    send_alike (value.Object n) v safe = at_one_if n (sent v) safe

    close_alike : (c : Value) → IsSafeValue c → Alike m (close m c) (close rest c)
    close_alike (value.Int i) safe = reads value.Nil
    close_alike (value.Bool b) safe = reads value.Nil
    close_alike value.Nil safe = record { is = refl; steady = tt }
    close_alike (value.Object n) safe = at_one n shut safe

    silent_lifted : (o : Option Effect)
        → option_map silent (option_map lifted o) ≡ option_map lifted (option_map silent o)
    silent_lifted None = refl
    silent_lifted (Some (Does n v)) = refl
    silent_lifted (Some (Traps trap)) = refl

    silent_steady : (o : Option Effect) → SteadyIf m o → SteadyIf m (option_map silent o)
    silent_steady None x = tt
    silent_steady (Some (Does n v)) x = x
    silent_steady (Some (Traps trap)) x = tt

    silent_alike : {whole kept : Option Effect} → AlikeIf m whole kept
        → AlikeIf m (option_map silent whole) (option_map silent kept)
    silent_alike {whole} x = record {
      is = ap (option_map silent) x.is ∙ silent_lifted whole;
      steady = silent_steady whole x.steady;
    }

    -- ---- what is made

    made_alike : (object : Object) → Alike m (made m object) (made rest object)
    made_alike object = record {
      is = λ i. Does (record m { heap = kept_push regions owners m.heap object fits i })
          (value.Object (kept_length regions owners m.heap i));
      steady = push_steady regions owners m object fits;
    }

    struct_alike : (s : Option Struct) → Alike m (made_struct s m) (made_struct s rest)
    struct_alike None = reads value.Nil
    struct_alike (Some s) = made_alike _

    sized_alike : (object : ℕ → Object) (v : Value) → Alike m (sized object v m) (sized object v rest)
    sized_alike object (value.Int (pos n)) = made_alike (object n)
    sized_alike object (value.Int (negsuc n)) = record { is = refl; steady = tt }
    sized_alike object (value.Bool b) = reads value.Nil
    sized_alike object value.Nil = reads value.Nil
    sized_alike object (value.Object o) = reads value.Nil

    variable_alike : (n : ℕ) (v : Value) → Alike m (set_variable n v m) (set_variable n v rest)
    variable_alike n v = record { is = refl; steady = record { grows = omega arith; same = λ o lost. refl } }

    -- ---- each action, by how many operands it has

    none_alike : (structs : List Struct) (a : Action) → Alike m (on_none structs a m) (on_none structs a rest)
    none_alike structs (action.Int k) = reads (value.Int k)
    none_alike structs (action.Bool b) = reads (value.Bool b)
    none_alike structs action.Nil = reads value.Nil
    none_alike structs action.Copy = reads value.Nil
    none_alike structs (action.Binary op) = reads value.Nil
    none_alike structs action.Neg = reads value.Nil
    none_alike structs action.Not = reads value.Nil
    none_alike structs action.IsNil = reads value.Nil
    none_alike structs action.Len = reads value.Nil
    none_alike structs (action.Load k) = reads value.Nil
    none_alike structs (action.Store k) = reads value.Nil
    none_alike structs action.At = reads value.Nil
    none_alike structs action.Put = reads value.Nil
    none_alike structs (action.New n) = struct_alike (slice_get structs n)
    none_alike structs action.Slice = reads value.Nil
    none_alike structs action.Chan = reads value.Nil
    none_alike structs action.Recv = reads value.Nil
    none_alike structs action.Send = reads value.Nil
    none_alike structs action.Close = reads value.Nil
    none_alike structs (action.Get n) = reads (or_nil (slice_get m.variables n))
    none_alike structs (action.Set n) = reads value.Nil

    one_alike : (a : Action) (ty : «Type») (v : Value) → TouchesSafe a (v ∷ [])
        → Alike m (on_one a ty v m) (on_one a ty v rest)
    one_alike (action.Int k) ty v t = reads value.Nil
    one_alike (action.Bool b) ty v t = reads value.Nil
    one_alike action.Nil ty v t = reads value.Nil
    one_alike action.Copy ty v t = reads v
    one_alike (action.Binary op) ty v t = reads value.Nil
    one_alike action.Neg ty v t = reads (negated_value v)
    one_alike action.Not ty v t = reads (inverted v)
    one_alike action.IsNil ty v t = reads (nil_test v)
    one_alike action.Len ty v t = length_alike v (touched_safe action.Len v [] (λ o. refl) t)
    one_alike (action.Load k) ty v t = load_alike v k (touched_safe (action.Load k) v [] (λ o. refl) t)
    one_alike (action.Store k) ty v t = reads value.Nil
    one_alike action.At ty v t = reads value.Nil
    one_alike action.Put ty v t = reads value.Nil
    one_alike (action.New n) ty v t = reads value.Nil
    one_alike action.Slice ty v t = sized_alike (λ n. SliceObject (replicate n (element_zero ty))) v
    one_alike action.Chan ty v t = sized_alike (λ n. Channel n [] false) v
    one_alike action.Recv ty v t = reads value.Nil
    one_alike action.Send ty v t = reads value.Nil
    one_alike action.Close ty v t = reads value.Nil
    one_alike (action.Get n) ty v t = reads value.Nil
    one_alike (action.Set n) ty v t = variable_alike n v

    two_alike : (a : Action) (v w : Value) → TouchesSafe a (v ∷ w ∷ []) → Alike m (on_two a v w m) (on_two a v w rest)
    two_alike (action.Int k) v w t = reads value.Nil
    two_alike (action.Bool b) v w t = reads value.Nil
    two_alike action.Nil v w t = reads value.Nil
    two_alike action.Copy v w t = reads value.Nil
    two_alike (action.Binary op) v w t = answers (binary_of op v w)
    two_alike action.Neg v w t = reads value.Nil
    two_alike action.Not v w t = reads value.Nil
    two_alike action.IsNil v w t = reads value.Nil
    two_alike action.Len v w t = reads value.Nil
    two_alike (action.Load k) v w t = reads value.Nil
    two_alike (action.Store k) v w t = store_alike v k w (touched_safe (action.Store k) v (w ∷ []) (λ o. refl) t)
    two_alike action.At v w t = element_alike v w (touched_safe action.At v (w ∷ []) (λ o. refl) t)
    two_alike action.Put v w t = reads value.Nil
    two_alike (action.New n) v w t = reads value.Nil
    two_alike action.Slice v w t = reads value.Nil
    two_alike action.Chan v w t = reads value.Nil
    two_alike action.Recv v w t = reads value.Nil
    two_alike action.Send v w t = reads value.Nil
    two_alike action.Close v w t = reads value.Nil
    two_alike (action.Get n) v w t = reads value.Nil
    two_alike (action.Set n) v w t = reads value.Nil

    three_alike : (a : Action) (u v w : Value) → TouchesSafe a (u ∷ v ∷ w ∷ [])
        → Alike m (on_three a u v w m) (on_three a u v w rest)
    three_alike (action.Int k) u v w t = reads value.Nil
    three_alike (action.Bool b) u v w t = reads value.Nil
    three_alike action.Nil u v w t = reads value.Nil
    three_alike action.Copy u v w t = reads value.Nil
    three_alike (action.Binary op) u v w t = reads value.Nil
    three_alike action.Neg u v w t = reads value.Nil
    three_alike action.Not u v w t = reads value.Nil
    three_alike action.IsNil u v w t = reads value.Nil
    three_alike action.Len u v w t = reads value.Nil
    three_alike (action.Load k) u v w t = reads value.Nil
    three_alike (action.Store k) u v w t = reads value.Nil
    three_alike action.At u v w t = reads value.Nil
    three_alike action.Put u v w t = put_alike u v w (touched_safe action.Put u (v ∷ w ∷ []) (λ o. refl) t)
    three_alike (action.New n) u v w t = reads value.Nil
    three_alike action.Slice u v w t = reads value.Nil
    three_alike action.Chan u v w t = reads value.Nil
    three_alike action.Recv u v w t = reads value.Nil
    three_alike action.Send u v w t = reads value.Nil
    three_alike action.Close u v w t = reads value.Nil
    three_alike (action.Get n) u v w t = reads value.Nil
    three_alike (action.Set n) u v w t = reads value.Nil

    perform_alike : (structs : List Struct) (a : Action) (ty : «Type») (values : List Value) → TouchesSafe a values
        → Alike m (perform structs a ty values m) (perform structs a ty values rest)
    perform_alike structs a ty [] t = none_alike structs a
    perform_alike structs a ty (v ∷ []) t = one_alike a ty v t
    perform_alike structs a ty (v ∷ w ∷ []) t = two_alike a v w t
    perform_alike structs a ty (u ∷ v ∷ w ∷ []) t = three_alike a u v w t
    perform_alike structs a ty (u ∷ v ∷ w ∷ x ∷ values) t = reads value.Nil

    -- an operation on a channel included
    pub performed_alike : (structs : List Struct) (a : Action) (ty : «Type») (values : List Value)
        → TouchesSafe a values → AlikeIf m (performed structs a ty values m) (performed structs a ty values rest)
    performed_alike structs (action.Int k) ty vs t = does (perform_alike structs (action.Int k) ty vs t)
    performed_alike structs (action.Bool b) ty vs t = does (perform_alike structs (action.Bool b) ty vs t)
    performed_alike structs action.Nil ty vs t = does (perform_alike structs action.Nil ty vs t)
    performed_alike structs action.Copy ty vs t = does (perform_alike structs action.Copy ty vs t)
    performed_alike structs (action.Binary op) ty vs t = does (perform_alike structs (action.Binary op) ty vs t)
    performed_alike structs action.Neg ty vs t = does (perform_alike structs action.Neg ty vs t)
    performed_alike structs action.Not ty vs t = does (perform_alike structs action.Not ty vs t)
    performed_alike structs action.IsNil ty vs t = does (perform_alike structs action.IsNil ty vs t)
    performed_alike structs action.Len ty vs t = does (perform_alike structs action.Len ty vs t)
    performed_alike structs (action.Load k) ty vs t = does (perform_alike structs (action.Load k) ty vs t)
    performed_alike structs (action.Store k) ty vs t = does (perform_alike structs (action.Store k) ty vs t)
    performed_alike structs action.At ty vs t = does (perform_alike structs action.At ty vs t)
    performed_alike structs action.Put ty vs t = does (perform_alike structs action.Put ty vs t)
    performed_alike structs (action.New n) ty vs t = does (perform_alike structs (action.New n) ty vs t)
    performed_alike structs action.Slice ty vs t = does (perform_alike structs action.Slice ty vs t)
    performed_alike structs action.Chan ty vs t = does (perform_alike structs action.Chan ty vs t)
    performed_alike structs action.Recv ty [] t = does (perform_alike structs action.Recv ty [] t)
    performed_alike structs action.Recv ty (c ∷ []) t =
        receive_alike c (zero_of ty) (touched_safe action.Recv c [] (λ o. refl) t)
    performed_alike structs action.Recv ty (c ∷ d ∷ vs) t = does (perform_alike structs action.Recv ty (c ∷ d ∷ vs) t)
    performed_alike structs action.Send ty [] t = does (perform_alike structs action.Send ty [] t)
    performed_alike structs action.Send ty (c ∷ []) t = does (perform_alike structs action.Send ty (c ∷ []) t)
    performed_alike structs action.Send ty (c ∷ v ∷ []) t =
        silent_alike (send_alike c v (touched_safe action.Send c (v ∷ []) (λ o. refl) t))
    performed_alike structs action.Send ty (c ∷ v ∷ w ∷ vs) t =
        does (perform_alike structs action.Send ty (c ∷ v ∷ w ∷ vs) t)
    performed_alike structs action.Close ty [] t = does (perform_alike structs action.Close ty [] t)
    performed_alike structs action.Close ty (c ∷ []) t =
        silent_alike (does (close_alike c (touched_safe action.Close c [] (λ o. refl) t)))
    performed_alike structs action.Close ty (c ∷ d ∷ vs) t = does (perform_alike structs action.Close ty (c ∷ d ∷ vs) t)
    performed_alike structs (action.Get n) ty vs t = does (perform_alike structs (action.Get n) ty vs t)
    performed_alike structs (action.Set n) ty vs t = does (perform_alike structs (action.Set n) ty vs t)
