-- Each action keeps pointers in their regions; its value leads into the region of its variable's class.
-- What is read from an object leads into the object's region, and the variable that takes it is joined with the one that was followed
-- (rules 4 and 5), so both have one class. What is written into an object is joined with it in the same way. A new object is made in
-- the region of the variable that takes it, and has no pointers yet.
use Rattle.std.proofs.Common.{◌≡◌, ◌≢◌, ℕ, zero, suc, ◌+◌, ◌<◌, Bool, true, false, List, [], ◌∷◌, ◌++◌, map, length}
use Rattle.std.proofs.Common.{Option, Some, None, refl, sym, ap, ◌∙◌, subst, nat_eq, nat_lt, if◌then◌else◌, arith, ◌⊎◌}
use Rattle.std.proofs.Common.{inl, inr, slice_get, slice_set, length-append, Contains, append-nil}
use Rattle.std.proofs.lemmas.Option.{slice_get_within, slice_get_past, same_Some}
use Rattle.std.specs.Prelude.{ℤ, pos, negsuc, int_rem, Result, Ok, Err}
use Rattle.std.specs.Int.{w64, int_wrapping_div}
use Rattle.std.specs.Option.{option_map}
use Rattle.std.specs.Ordering.{int_eq}
use Rattle.rgo_sound.proofs.Places.{contains_here, contains_there, each_get, each_more, each_replicate, each_set}
use Rattle.rgo_sound.proofs.Places.{each_snoc, get_append_last, get_append_left, get_set_other, get_set_same, get_snoc}
use Rattle.rgo_sound.proofs.Places.{length_set}
use Rattle.rgo_sound.proofs.Tests.{split, eq_of}
use Rattle.rgo_sound.proofs.steps.Acting.{performed, silent}
use Rattle.rgo_sound.proofs.steps.OneStep.{Allots}
use Rattle.rgo_ast.specs.declared.ops.BinaryOp.{BinaryOp}
use Rattle.rgo_ast.specs.declared.ops.BinaryOp.TheVariants.{Mul, Div, Rem, Add, Sub, Eq, Ne, Lt, Le, Gt, Ge, And, Or}
use Rattle.rgo_code.specs.Code.{CodeFn}
use Rattle.rgo_code.specs.Names.{class_of, member_class}
use Rattle.rgo_memory.specs.Channels.{close, receive, received, send, sent, shut}
use Rattle.rgo_memory.specs.Effects.{Does, Effect, Outcome, Traps, answered, at_object, at_object_if_ready, in_memory}
use Rattle.rgo_memory.specs.Effects.{in_memory_if_ready, to_object, to_object_if_ready}
use Rattle.rgo_memory.specs.Elements.{cell_put, element, element_at, element_in, length_in, length_of, or_out_of_range}
use Rattle.rgo_memory.specs.Elements.{put, put_in}
use Rattle.rgo_memory.specs.Fields.{field_value, load, or_nil, store, store_outcome}
use Rattle.rgo_memory.specs.Making.{made, made_struct, new_struct, sized}
use Rattle.rgo_memory.specs.Memory.{Channel, Memory, Object, SliceObject, StructObject, with_object}
use Rattle.rgo_memory.specs.Operators.{binary_of, checked_quotient, int_result, inverted, is_equal, negated_value, nil_test, on_ints}
use Rattle.rgo_memory.specs.Operators.{same_bool}
use Rattle.rgo_memory.specs.Perform.{on_none, on_one, on_three, on_two, perform, set_variable}
use Rattle.rgo_memory.specs.Values.{element_zero, element_zero_in, zero_in, zero_of}
use Rattle.rgo_memory.specs.declared.traps.Trap.{Trap}
use Rattle.rgo_memory.specs.declared.traps.Trap.TheVariants.{DivideZero, IndexRange}
use Rattle.rgo_memory.specs.declared.values.Value.{Value}
use Rattle.rgo_memory.specs.declared.values.Value.TheVariants as value
use Rattle.rgo_region_machine.specs.Objects.{makes_object, target_class}
use Rattle.rgo_region_machine.specs.Regions.{Bindings, class_region}
use Rattle.rgo_region_machine.specs.declared.regions.Region.{Region}
use Rattle.rgo_region_machine.specs.declared.regions.Region.TheVariants.{Global as GlobalRegion}
use Rattle.rgo_sound.specs.Safety.{cells_of}
use Rattle.rgo_sound.specs.Types.{Each}
use Rattle.rgo_sound.specs.Values.{LeadsHome, LeadsInto, MemoryHome}
use Rattle.rgo_tac.specs.Frames.{TacFrame, value_at, operand_values}
use Rattle.rgo_tac.specs.Joins.{action_joins, joined_variables}
use Rattle.rgo_tac.specs.declared.regions.Class.{Class}
use Rattle.rgo_tac.specs.declared.regions.Class.TheVariants.{Global, NoClass}
use Rattle.rgo_tac.specs.declared.regions.Member.{Member}
use Rattle.rgo_tac.specs.declared.regions.Member.TheVariants as member
use Rattle.rgo_typed.specs.declared.actions.Action.{Action}
use Rattle.rgo_typed.specs.declared.actions.Action.TheVariants as action
use Rattle.rgo_typed.specs.declared.programs.Struct.{Struct}
use Rattle.rgo_typed.specs.declared.types.Base.{Base}
use Rattle.rgo_typed.specs.declared.types.Base.TheVariants as base
use Rattle.rgo_typed.specs.declared.types.Layer.{Layer}
use Rattle.rgo_typed.specs.declared.types.Type.{«Type»}

-- ---- values that are not pointers

-- such a value leads into every region; operators, tests, lengths and zeros return no other
abbrev pub IsPlain : Value → Type 0
IsPlain (value.Int i) = Unit {0}
IsPlain (value.Bool b) = Unit {0}
IsPlain value.Nil = Unit {0}
IsPlain (value.Object o) = ⊥

abbrev IsPlainAnswer : Result Value Trap → Type 0
IsPlainAnswer (Ok v) = IsPlain v
IsPlainAnswer (Err trap) = Unit {0}

divided_plain : (y z : ℤ) → IsPlainAnswer (checked_quotient y z)
divided_plain y z = go (int_eq y (pos 0))
  where
    go : (b : Bool) → IsPlainAnswer (if b then Err DivideZero else int_result z)
    go true = tt
    go false = tt

ints_plain : (op : BinaryOp) (x y : ℤ) → IsPlainAnswer (on_ints op x y)
ints_plain Mul x y = tt
ints_plain Div x y = divided_plain y (int_wrapping_div w64 x y)
ints_plain Rem x y = divided_plain y (int_rem x y)
ints_plain Add x y = tt
ints_plain Sub x y = tt
ints_plain Eq x y = tt
ints_plain Ne x y = tt
ints_plain Lt x y = tt
ints_plain Le x y = tt
ints_plain Gt x y = tt
ints_plain Ge x y = tt
ints_plain And x y = tt
ints_plain Or x y = tt

equal_plain : (op : BinaryOp) (same : Bool) → IsPlain (is_equal op same)
equal_plain Mul same = tt
equal_plain Div same = tt
equal_plain Rem same = tt
equal_plain Add same = tt
equal_plain Sub same = tt
equal_plain Eq same = tt
equal_plain Ne same = tt
equal_plain Lt same = tt
equal_plain Le same = tt
equal_plain Gt same = tt
equal_plain Ge same = tt
equal_plain And same = tt
equal_plain Or same = tt

binary_plain : (op : BinaryOp) (v w : Value) → IsPlainAnswer (binary_of op v w)
binary_plain op (value.Int x) (value.Int y) = ints_plain op x y
binary_plain op (value.Int x) (value.Bool y) = tt
binary_plain op (value.Int x) value.Nil = tt
binary_plain op (value.Int x) (value.Object y) = tt
binary_plain op (value.Bool x) (value.Int y) = tt
binary_plain op (value.Bool x) (value.Bool y) = equal_plain op (same_bool x y)
binary_plain op (value.Bool x) value.Nil = tt
binary_plain op (value.Bool x) (value.Object y) = tt
binary_plain op value.Nil (value.Int y) = tt
binary_plain op value.Nil (value.Bool y) = tt
binary_plain op value.Nil value.Nil = equal_plain op true
binary_plain op value.Nil (value.Object y) = equal_plain op false
binary_plain op (value.Object x) (value.Int y) = tt
binary_plain op (value.Object x) (value.Bool y) = tt
binary_plain op (value.Object x) value.Nil = equal_plain op false
binary_plain op (value.Object x) (value.Object y) = equal_plain op (nat_eq x y)

negated_plain : (v : Value) → IsPlain (negated_value v)
negated_plain (value.Int x) = tt
negated_plain (value.Bool x) = tt
negated_plain value.Nil = tt
negated_plain (value.Object o) = tt

inverted_plain : (v : Value) → IsPlain (inverted v)
inverted_plain (value.Int x) = tt
inverted_plain (value.Bool x) = tt
inverted_plain value.Nil = tt
inverted_plain (value.Object o) = tt

nil_test_plain : (v : Value) → IsPlain (nil_test v)
nil_test_plain (value.Int x) = tt
nil_test_plain (value.Bool x) = tt
nil_test_plain value.Nil = tt
nil_test_plain (value.Object o) = tt

length_plain : (m : Memory) (v : Value) → IsPlain (length_of m v)
length_plain m (value.Int x) = tt
length_plain m (value.Bool x) = tt
length_plain m value.Nil = tt
length_plain m (value.Object o) = go (slice_get m.heap o)
  where
    go : (x : Option Object) → IsPlain (length_in x)
    go None = tt
    go (Some (StructObject cells)) = tt
    go (Some (SliceObject cells)) = tt
    go (Some (Channel capacity queue closed)) = tt

pub into_plain : (owners : List Region) (r : Region) (v : Value) → IsPlain v → LeadsInto owners r v
into_plain owners r (value.Int i) p = tt
into_plain owners r (value.Bool b) p = tt
into_plain owners r value.Nil p = tt
into_plain owners r (value.Object o) p = absurd p

zero_in_plain : (ls : List Layer) (b : Base) → IsPlain (zero_in ls b)
zero_in_plain [] base.Int = tt
zero_in_plain [] base.Bool = tt
zero_in_plain [] (base.Pointer struct) = tt
zero_in_plain (l ∷ ls) b = tt

pub zero_plain : (ty : «Type») → IsPlain (zero_of ty)
zero_plain ty = zero_in_plain ty.layers ty.base

element_zero_plain : (ls : List Layer) (b : Base) → IsPlain (element_zero_in ls b)
element_zero_plain [] b = tt
element_zero_plain (l ∷ ls) b = zero_in_plain ls b

element_into : (owners : List Region) (r : Region) (ty : «Type») → LeadsInto owners r (element_zero ty)
element_into owners r ty = into_plain owners r (element_zero ty) (element_zero_plain ty.layers ty.base)

-- the cells of a new struct are zeros, so they lead into any region
zeros_into : (owners : List Region) (r : Region) (tys : List «Type») → Each (LeadsInto owners r) (map zero_of tys)
zeros_into owners r [] = tt
zeros_into owners r (ty ∷ tys) = (into_plain owners r (zero_of ty) (zero_plain ty), zeros_into owners r tys)

-- a cell, or nil if there is none
nth_into : (owners : List Region) (r : Region) (cells : List Value) (k : ℕ) → Each (LeadsInto owners r) cells
    → LeadsInto owners r (or_nil (slice_get cells k))
nth_into owners r [] k all = tt
nth_into owners r (v ∷ vs) zero all = all.0
nth_into owners r (v ∷ vs) (suc k) all = nth_into owners r vs k all.1

-- ---- more objects

-- a step that makes an object adds an owner at the end: existing pointers lead where they led
more_into : (owners given : List Region) (r : Region) (v : Value) → LeadsInto owners r v
    → LeadsInto (owners ++ given) r v
more_into owners given r (value.Int i) h = tt
more_into owners given r (value.Bool b) h = tt
more_into owners given r value.Nil h = tt
more_into owners given r (value.Object o) h = get_append_left owners given o (slice_get_within owners o r h) ∙ h

-- more objects change nothing
pub more_home : (owners given : List Region) (names : Bindings) (c : Class) (v : Value) → LeadsHome owners names c v
    → LeadsHome (owners ++ given) names c v
more_home owners given names c (value.Int i) h = tt
more_home owners given names c (value.Bool b) h = tt
more_home owners given names c value.Nil h = tt
more_home owners given names c (value.Object o) (r, e, w) = (r, e, more_into owners given r (value.Object o) w)

-- a pointer that leads home has a class
pub has_class : (owners : List Region) (names : Bindings) (c : Class) (o : ℕ)
    → LeadsHome owners names c (value.Object o) → c ≢ NoClass
has_class owners names c o (r, e, w) n = let x : None ≡ Some r = sym (ap (class_region names) n) ∙ e in cc

-- to lead home is to lead into the region of the class, if that has one
pub into_home : (owners : List Region) (names : Bindings) (c : Class) (r : Region) (v : Value) → class_region names c
    ≡ Some r → LeadsInto owners r v → LeadsHome owners names c v
into_home owners names c r (value.Int i) e h = tt
into_home owners names c r (value.Bool b) e h = tt
into_home owners names c r value.Nil e h = tt
into_home owners names c r (value.Object o) e h = (r, e, h)

-- from the class of a variable to its region
pub home_into : (owners : List Region) (names : Bindings) (c : Class) (r : Region) (v : Value) → class_region names c
    ≡ Some r → LeadsHome owners names c v → LeadsInto owners r v
home_into owners names c r (value.Int i) e h = tt
home_into owners names c r (value.Bool b) e h = tt
home_into owners names c r value.Nil e h = tt
home_into owners names c r (value.Object o) e (q, e', w) = w ∙ (sym e' ∙ e)

-- a value that is not a pointer leads home, whatever the class
pub home_of_plain : (owners : List Region) (names : Bindings) (c : Class) (v : Value) → IsPlain v
    → LeadsHome owners names c v
home_of_plain owners names c (value.Int i) p = tt
home_of_plain owners names c (value.Bool b) p = tt
home_of_plain owners names c value.Nil p = tt
home_of_plain owners names c (value.Object o) p = absurd p

module _ (fn : CodeFn) (names : Bindings) where
  -- a pointer of the one class is one of the other, if the two are joined
  pub joined_home : (owners : List Region) (c d : Class) (v : Value) → (c ≢ NoClass → d ≢ NoClass → c ≡ d)
      → ((o : ℕ) → v ≡ value.Object o → c ≢ NoClass) → LeadsHome owners names d v → LeadsHome owners names c v
  joined_home owners c d (value.Int i) j n h = tt
  joined_home owners c d (value.Bool b) j n h = tt
  joined_home owners c d value.Nil j n h = tt
  joined_home owners c d (value.Object o) j n (r, e, w) =
      (r, ap (class_region names) (j (n o refl) (has_class owners names d o (r, e, w))) ∙ e, w)

  -- the variable that is written has a value that leads home, if it has a class for a pointer
  abbrev pub HomeAfter : List Region → Option ℕ → Value → Type 0
  HomeAfter owners None v = Unit {0}
  HomeAfter owners (Some d) v = ((o : ℕ) → v ≡ value.Object o → class_of fn d ≢ NoClass)
      → LeadsHome owners names (class_of fn d) v

  -- a value that is not a pointer leads home
  pub plain_home : (owners : List Region) (d : Option ℕ) (v : Value) → IsPlain v → HomeAfter owners d v
  plain_home owners None v p = tt
  plain_home owners (Some d) v p = λ n. home_of_plain owners names (class_of fn d) v p

-- two that are joined have one class, if both have one: an `int` that is joined with a pointer has none, and needs none
abbrev pub ClassesAgree : CodeFn → Option (Member × Member) → Type 0
ClassesAgree fn pair = (x y : Member) → pair ≡ Some (x, y) → member_class fn x ≢ NoClass → member_class fn y ≢ NoClass
    → member_class fn x ≡ member_class fn y

module _ (fn : CodeFn) (names : Bindings) (owners : List Region) (m : Memory) (home : MemoryHome owners m)
    (region : Option Region) (to : Option ℕ) where
  -- what an action leaves, whatever owner the machine gave to a new object
  abbrev pub Moved : Effect → Type 0
  Moved (Does m' v) = (given : List Region) → Allots region (slice_get m'.heap (length m.heap)) given
      → MemoryHome (owners ++ given) m' × HomeAfter fn names (owners ++ given) to v
  Moved (Traps trap) = Unit {0}

  -- the same of an action that may have to wait
  abbrev pub MovedIf : Option Effect → Type 0
  MovedIf None = Unit {0}
  MovedIf (Some e) = Moved e

  -- no object was made
  still : (m' : Memory) (v : Value) → MemoryHome owners m' → length m'.heap ≡ length m.heap
      → HomeAfter fn names owners to v → Moved (Does m' v)
  still m' v home' l h given allots =
      let none : given ≡ [] = subst (λ o. Allots region o given)
      (slice_get_past m'.heap (length m.heap) (omega (arith, l)))
      allots in
      let same : owners ++ given ≡ owners = ap (λ x. owners ++ x) none ∙ append-nil owners in
      (subst (λ x. MemoryHome x m') (sym same) home', subst (λ x. HomeAfter fn names x to v) (sym same) h)

  -- the memory stays, and the value is not a pointer
  gives : (v : Value) → IsPlain v → Moved (Does m v)
  gives v p = still m v home refl (plain_home fn names owners to v p)

  by_answer : (a : Result Value Trap) → IsPlainAnswer a → Moved (answered m a)
  by_answer (Ok v) p = gives v p
  by_answer (Err trap) p = tt

  -- the value that it returns is dropped
  silences : (e : Effect) → Moved e → Moved (silent e)
  silences (Does m' v) h = λ given allots. ((h given allots).0, plain_home fn names (owners ++ given) to value.Nil tt)
  silences (Traps trap) h = tt

  silences_if : (e : Option Effect) → MovedIf e → MovedIf (option_map silent e)
  silences_if None h = tt
  silences_if (Some e) h = silences e h

  -- what is read of a variable has the class of the variable that is written
  abbrev First : ℕ → Type 0
  First a = (d : ℕ) → to ≡ Some d → class_of fn d ≢ NoClass → class_of fn a ≢ NoClass → class_of fn d ≡ class_of fn a

  -- this is the rule on joins, for each action that reads
  first_of : (action : Action) (a : ℕ) (from : List ℕ) → ((d : ℕ) → action_joins action (Some d) from ≡ joined_variables d a)
      → ClassesAgree fn (action_joins action to from) → First a
  first_of action a from is j d e = j (member.Variable d) (member.Variable a)
      (ap (λ t. action_joins action t from) e ∙ is d)

  first_home : (a : ℕ) (v : Value) → First a → LeadsHome owners names (class_of fn a) v → HomeAfter fn names owners to v
  first_home a v j h = go to j
    where
      go : (t : Option ℕ) → ((d : ℕ) → t ≡ Some d → class_of fn d ≢ NoClass → class_of fn a ≢ NoClass → class_of fn d
          ≡ class_of fn a) → HomeAfter fn names owners t v
      go None j = tt
      go (Some d) j = λ n. joined_home fn names owners (class_of fn d) (class_of fn a) v (j d refl) n h

  -- a cell of the object to which a variable leads
  cell_home : (a : ℕ) (o : ℕ) (object : Object) (v : Value) → slice_get m.heap o ≡ Some object
      → LeadsHome owners names (class_of fn a) (value.Object o)
      → ((r : Region) → Each (LeadsInto owners r) (cells_of object) → LeadsInto owners r v)
      → LeadsHome owners names (class_of fn a) v
  cell_home a o object v e (r, c, w) f = into_home owners names (class_of fn a) r v c (f r (home.cells o object r e w))

  -- another object in the place of one, with cells in its region
  set_home : (o : ℕ) (object old : Object) → slice_get m.heap o ≡ Some old
      → ((r : Region) → slice_get owners o ≡ Some r → Each (LeadsInto owners r) (cells_of old)
      → Each (LeadsInto owners r) (cells_of object)) → MemoryHome owners (with_object m o object)
  set_home o object old is f =
      record {
        owned = home.owned ∙ sym (length_set m.heap o object);
        cells = λ p x r e w. split (nat_eq o p) (λ t. same p x r (eq_of o p t) e w)
            (λ n. home.cells p x r (sym (get_set_other m.heap o p object n) ∙ e) w);
        variables = home.variables;
      }
    where
      same : (p : ℕ) (x : Object) (r : Region) → o ≡ p → slice_get (slice_set m.heap o object) p ≡ Some x
          → slice_get owners p ≡ Some r → Each (LeadsInto owners r) (cells_of x)
      same p x r u e w =
          let same_object : x ≡ object = same_Some x object (sym e ∙ ap (slice_get (slice_set m.heap o object)) (sym u)
          ∙ get_set_same m.heap o old object is) in
          let w' : slice_get owners o ≡ Some r = ap (slice_get owners) u ∙ w in
          subst (λ (y : Object). Each (LeadsInto owners r) (cells_of y)) (sym same_object)
          (f r w' (home.cells o old r is w'))

  -- ---- what is done to one object

  -- what becomes of an object: its cells still lead into its region
  abbrev Changed : ℕ → Object → Outcome Object → Type 0
  Changed o old (Does object v) = ((r : Region) → slice_get owners o ≡ Some r → Each (LeadsInto owners r) (cells_of old)
      → Each (LeadsInto owners r) (cells_of object)) × HomeAfter fn names owners to v
  Changed o old (Traps trap) = Unit {0}

  abbrev ChangedIf : ℕ → Object → Option (Outcome Object) → Type 0
  ChangedIf o old None = Unit {0}
  ChangedIf o old (Some outcome) = Changed o old outcome

  -- the object stays, and the value is nil
  stays : (o : ℕ) (old : Object) → Changed o old (Does old value.Nil)
  stays o old = ((λ r w all. all), plain_home fn names owners to value.Nil tt)

  in_place : (o : ℕ) (old : Object) (outcome : Outcome Object) → slice_get m.heap o ≡ Some old → Changed o old outcome
      → Moved (in_memory m o outcome)
  in_place o old (Does object v) e h = still (with_object m o object) v (set_home o object old e h.0)
      (length_set m.heap o object) h.1
  in_place o old (Traps trap) e h = tt

  in_place_if : (o : ℕ) (old : Object) (outcome : Option (Outcome Object)) → slice_get m.heap o ≡ Some old
      → ChangedIf o old outcome → MovedIf (in_memory_if_ready m o outcome)
  in_place_if o old None e h = tt
  in_place_if o old (Some outcome) e h = in_place o old outcome e h

  -- an action on one object: it is enough to say what becomes of that object
  to_one : (o : ℕ) (f : Object → Outcome Object) → ((old : Object) → slice_get m.heap o ≡ Some old
      → Changed o old (f old)) → Moved (at_object m o f)
  to_one o f h = go (slice_get m.heap o) refl
    where
      go : (x : Option Object) → slice_get m.heap o ≡ x → Moved (to_object m o f x)
      go None e = gives value.Nil tt
      go (Some old) e = in_place o old (f old) e (h old e)

  to_one_if : (o : ℕ) (f : Object → Option (Outcome Object))
      → ((old : Object) → slice_get m.heap o ≡ Some old → ChangedIf o old (f old)) → MovedIf (at_object_if_ready m o f)
  to_one_if o f h = go (slice_get m.heap o) refl
    where
      go : (x : Option Object) → slice_get m.heap o ≡ x → MovedIf (to_object_if_ready m o f x)
      go None e = gives value.Nil tt
      go (Some old) e = in_place_if o old (f old) e (h old e)

  -- ---- what is read

  copies : (a : ℕ) (v : Value) → First a → LeadsHome owners names (class_of fn a) v → Moved (Does m v)
  copies a v j h = still m v home refl (first_home a v j h)

  loads : (a k : ℕ) (v : Value) → First a → LeadsHome owners names (class_of fn a) v → Moved (answered m (load m v k))
  loads a k (value.Int x) j h = gives value.Nil tt
  loads a k (value.Bool x) j h = gives value.Nil tt
  loads a k value.Nil j h = tt
  loads a k (value.Object o) j h = still m (field_value (slice_get m.heap o) k) home refl
      (first_home a (field_value (slice_get m.heap o) k) j (go (slice_get m.heap o) refl))
    where
      go : (x : Option Object) → slice_get m.heap o ≡ x → LeadsHome owners names (class_of fn a) (field_value x k)
      go None e = tt
      go (Some (StructObject cells)) e = cell_home a o (StructObject cells) (or_nil (slice_get cells k)) e h
          (λ r all. nth_into owners r cells k all)
      go (Some (SliceObject cells)) e = tt
      go (Some (Channel capacity queue closed)) e = tt

  elements : (a o : ℕ) (cells : List Value) (i : ℤ) → First a → slice_get m.heap o ≡ Some (SliceObject cells)
      → LeadsHome owners names (class_of fn a) (value.Object o) → Moved (answered m (element cells i))
  elements a o cells (negsuc n) j e h = tt
  elements a o cells (pos i) j e h = go (slice_get cells i) refl
    where
      go : (x : Option Value) → slice_get cells i ≡ x → Moved (answered m (or_out_of_range x))
      go None q = tt
      go (Some v) q = copies a v j (cell_home a o (SliceObject cells) v e h
          (λ r all. each_get (LeadsInto owners r) cells i v all q))

  ats : (a : ℕ) (v w : Value) → First a → LeadsHome owners names (class_of fn a) v
      → Moved (answered m (element_at m v w))
  ats a (value.Int x) (value.Int i) j h = gives value.Nil tt
  ats a (value.Int x) (value.Bool i) j h = gives value.Nil tt
  ats a (value.Int x) value.Nil j h = gives value.Nil tt
  ats a (value.Int x) (value.Object i) j h = gives value.Nil tt
  ats a (value.Bool x) (value.Int i) j h = gives value.Nil tt
  ats a (value.Bool x) (value.Bool i) j h = gives value.Nil tt
  ats a (value.Bool x) value.Nil j h = gives value.Nil tt
  ats a (value.Bool x) (value.Object i) j h = gives value.Nil tt
  ats a value.Nil (value.Int i) j h = tt
  ats a value.Nil (value.Bool i) j h = gives value.Nil tt
  ats a value.Nil value.Nil j h = gives value.Nil tt
  ats a value.Nil (value.Object i) j h = gives value.Nil tt
  ats a (value.Object o) (value.Int i) j h = go (slice_get m.heap o) refl
    where
      go : (x : Option Object) → slice_get m.heap o ≡ x → Moved (answered m (element_in x i))
      go None e = gives value.Nil tt
      go (Some (StructObject cells)) e = gives value.Nil tt
      go (Some (SliceObject cells)) e = elements a o cells i j e h
      go (Some (Channel capacity queue closed)) e = gives value.Nil tt
  ats a (value.Object o) (value.Bool i) j h = gives value.Nil tt
  ats a (value.Object o) value.Nil j h = gives value.Nil tt
  ats a (value.Object o) (value.Object i) j h = gives value.Nil tt

  receives : (a : ℕ) (v blank : Value) → IsPlain blank → First a → LeadsHome owners names (class_of fn a) v
      → MovedIf (receive m v blank)
  receives a (value.Int x) blank p j h = gives value.Nil tt
  receives a (value.Bool x) blank p j h = gives value.Nil tt
  receives a value.Nil blank p j h = tt
  receives a (value.Object o) blank p j h = to_one_if o (received blank) from
    where
      from : (old : Object) → slice_get m.heap o ≡ Some old → ChangedIf o old (received blank old)
      from (StructObject cells) e = stays o (StructObject cells)
      from (SliceObject cells) e = stays o (SliceObject cells)
      from (Channel capacity (v ∷ queue) closed) e = (
        (λ r w all. all.1),
        first_home a v j
            (cell_home a o (Channel capacity (v ∷ queue) closed) v e h (λ r all. all.0)),
      )
      from (Channel capacity [] true) e = ((λ r w all. all), plain_home fn names owners to blank p)
      from (Channel capacity [] false) e = tt

  -- ---- what is written

  -- it leads into the region of the object
  abbrev Written : ℕ → Value → Type 0
  Written o w = (r : Region) → slice_get owners o ≡ Some r → LeadsInto owners r w

  written : (c d : Class) (o : ℕ) (w : Value) → (c ≢ NoClass → d ≢ NoClass → c ≡ d)
      → LeadsHome owners names c (value.Object o) → LeadsHome owners names d w → Written o w
  written c d o (value.Int i) j h g r e = tt
  written c d o (value.Bool b) j h g r e = tt
  written c d o value.Nil j h g r e = tt
  written c d o (value.Object p) j h g r e =
      let same : c ≡ d = j (has_class owners names c o h) (has_class owners names d p g) in
      let x : h.0 ≡ r = same_Some h.0 r (sym h.2 ∙ e) in
      let y : g.0 ≡ h.0 = same_Some g.0 h.0 (sym g.1 ∙ ap (class_region names) (sym same) ∙ h.1) in
      g.2 ∙ ap Some (y ∙ x)

  -- the two operands of an action have one class
  pair : (a b : ℕ) (both : Option (Member × Member)) → both ≡ joined_variables a b → ClassesAgree fn both
      → (class_of fn a ≢ NoClass → class_of fn b ≢ NoClass → class_of fn a ≡ class_of fn b)
  pair a b both is j = j (member.Variable a) (member.Variable b) is

  stores : {c d : Class} → (k : ℕ) (p v : Value) → (c ≢ NoClass → d ≢ NoClass → c ≡ d) → LeadsHome owners names c p
      → LeadsHome owners names d v → Moved (store m p k v)
  stores k (value.Int x) v j h g = gives value.Nil tt
  stores k (value.Bool x) v j h g = gives value.Nil tt
  stores k value.Nil v j h g = tt
  stores {c} {d} k (value.Object o) v j h g = to_one o (store_outcome k v) into
    where
      into : (old : Object) → slice_get m.heap o ≡ Some old → Changed o old (store_outcome k v old)
      into (StructObject cells) e = (
        (λ r w all. each_set (LeadsInto owners r) cells k v all
            (written c d o v j h g r w)),
        plain_home fn names owners to value.Nil tt,
      )
      into (SliceObject cells) e = stays o (SliceObject cells)
      into (Channel capacity queue closed) e = stays o (Channel capacity queue closed)

  puts : {c d : Class} → (v w x : Value) → (c ≢ NoClass → d ≢ NoClass → c ≡ d) → LeadsHome owners names c v
      → LeadsHome owners names d x → Moved (put m v w x)
  puts (value.Int n) (value.Int i) x j h g = gives value.Nil tt
  puts (value.Int n) (value.Bool i) x j h g = gives value.Nil tt
  puts (value.Int n) value.Nil x j h g = gives value.Nil tt
  puts (value.Int n) (value.Object i) x j h g = gives value.Nil tt
  puts (value.Bool n) (value.Int i) x j h g = gives value.Nil tt
  puts (value.Bool n) (value.Bool i) x j h g = gives value.Nil tt
  puts (value.Bool n) value.Nil x j h g = gives value.Nil tt
  puts (value.Bool n) (value.Object i) x j h g = gives value.Nil tt
  puts value.Nil (value.Int i) x j h g = tt
  puts value.Nil (value.Bool i) x j h g = gives value.Nil tt
  puts value.Nil value.Nil x j h g = gives value.Nil tt
  puts value.Nil (value.Object i) x j h g = gives value.Nil tt
  puts {c} {d} (value.Object o) (value.Int i) x j h g = to_one o (put_in i x) into
    where
      into : (old : Object) → slice_get m.heap o ≡ Some old → Changed o old (put_in i x old)
      into (StructObject cells) e = stays o (StructObject cells)
      into (SliceObject cells) e = at i
        where
          at : (i : ℤ) → Changed o (SliceObject cells) (cell_put cells i x)
          at (negsuc n) = tt
          at (pos i) = go (nat_lt i (length cells))
            where
              go : (b : Bool) → Changed o (SliceObject cells) (if b then Does (SliceObject (slice_set cells i x))
                  value.Nil else Traps IndexRange)
              go true = (
                (λ r w all. each_set (LeadsInto owners r) cells i x all (written c d o x j h g r w)),
                plain_home fn names owners to value.Nil tt,
              )
              go false = tt
      into (Channel capacity queue closed) e = stays o (Channel capacity queue closed)
  puts (value.Object o) (value.Bool i) x j h g = gives value.Nil tt
  puts (value.Object o) value.Nil x j h g = gives value.Nil tt
  puts (value.Object o) (value.Object i) x j h g = gives value.Nil tt

  sends : {c d : Class} → (v w : Value) → (c ≢ NoClass → d ≢ NoClass → c ≡ d) → LeadsHome owners names c v
      → LeadsHome owners names d w → MovedIf (send m v w)
  sends (value.Int x) w j h g = gives value.Nil tt
  sends (value.Bool x) w j h g = gives value.Nil tt
  sends value.Nil w j h g = tt
  sends {c} {d} (value.Object o) w j h g = to_one_if o (sent w) into
    where
      into : (old : Object) → slice_get m.heap o ≡ Some old → ChangedIf o old (sent w old)
      into (StructObject cells) e = stays o (StructObject cells)
      into (SliceObject cells) e = stays o (SliceObject cells)
      into (Channel capacity queue true) e = tt
      into (Channel capacity queue false) e = go (nat_lt (length queue) capacity)
        where
          go : (b : Bool) → ChangedIf o (Channel capacity queue false)
              (if b then Some (Does (Channel capacity (queue ++ w ∷ []) false) value.Nil) else None)
          go true = (
            (λ r q all. each_snoc (LeadsInto owners r) queue w all (written c d o w j h g r q)),
            plain_home fn
                names owners to value.Nil tt,
          )
          go false = tt

  closes : (v : Value) → Moved (close m v)
  closes (value.Int x) = gives value.Nil tt
  closes (value.Bool x) = gives value.Nil tt
  closes value.Nil = tt
  closes (value.Object o) = to_one o shut into
    where
      into : (old : Object) → slice_get m.heap o ≡ Some old → Changed o old (shut old)
      into (StructObject cells) e = stays o (StructObject cells)
      into (SliceObject cells) e = stays o (SliceObject cells)
      into (Channel capacity queue true) e = tt
      into (Channel capacity queue false) e = ((λ r w all. all), plain_home fn names owners to value.Nil tt)

  -- ---- package variables

  global_region : (c : Class) → c ≡ Global → class_region names c ≡ Some GlobalRegion
  global_region c e = ap (class_region names) e

  gets : (n : ℕ) → ((d : ℕ) → to ≡ Some d → class_of fn d ≢ NoClass → class_of fn d ≡ Global)
      → Moved (Does m (or_nil (slice_get m.variables n)))
  gets n g = still m (or_nil (slice_get m.variables n)) home refl (go to g)
    where
      pointer : (d : ℕ) (w : Value) → LeadsInto owners GlobalRegion w
          → (class_of fn d ≢ NoClass → class_of fn d ≡ Global)
          → ((o : ℕ) → w ≡ value.Object o → class_of fn d ≢ NoClass) → LeadsHome owners names (class_of fn d) w
      pointer d (value.Int i) h g n = tt
      pointer d (value.Bool b) h g n = tt
      pointer d value.Nil h g n = tt
      pointer d (value.Object o) h g n = (GlobalRegion, global_region (class_of fn d) (g (n o refl)), h)

      go : (t : Option ℕ) → ((d : ℕ) → t ≡ Some d → class_of fn d ≢ NoClass → class_of fn d ≡ Global)
          → HomeAfter fn names owners t (or_nil (slice_get m.variables n))
      go None g = tt
      go (Some d) g = pointer d (or_nil (slice_get m.variables n))
          (nth_into owners GlobalRegion m.variables n home.variables) (g d refl)

  sets : (a n : ℕ) (v : Value) → (class_of fn a ≢ NoClass → class_of fn a ≡ Global)
      → LeadsHome owners names (class_of fn a) v → Moved (set_variable n v m)
  sets a n v g h =
      still (record m { variables = slice_set m.variables n v }) value.Nil
      (record {
        owned = home.owned;
        cells = home.cells;
        variables =
            each_set (LeadsInto owners GlobalRegion) m.variables n v home.variables (into v h);
      }) refl
      (plain_home fn names owners to value.Nil tt)
    where
      into : (w : Value) → LeadsHome owners names (class_of fn a) w → LeadsInto owners GlobalRegion w
      into (value.Int i) k = tt
      into (value.Bool b) k = tt
      into value.Nil k = tt
      into (value.Object o) k = home_into owners names (class_of fn a) GlobalRegion (value.Object o)
          (global_region (class_of fn a) (g (has_class owners names (class_of fn a) o k))) k

  -- this is the rule on joins, for the variable that gets a package variable, and for the one that sets one
  global_first : (n : ℕ) → ClassesAgree fn (action_joins (action.Get n) to []) → (d : ℕ) → to ≡ Some d
      → class_of fn d ≢ NoClass → class_of fn d ≡ Global
  global_first n j d e c = j (member.Variable d) member.Global (ap (λ t. action_joins (action.Get n) t []) e) c has
    where
      has : Global ≢ NoClass
      has e = cc

  global_operand : (a n : ℕ) → ClassesAgree fn (action_joins (action.Set n) to (a ∷ [])) → class_of fn a ≢ NoClass
      → class_of fn a ≡ Global
  global_operand a n j c = j (member.Variable a) member.Global refl c has
    where
      has : Global ≢ NoClass
      has e = cc

  -- ---- new objects

  -- it is made in the region of the variable that is written, and has no pointers yet; so no class of another variable has to agree
  module _ (for_target : region ≡ class_region names (target_class (Some fn) to)) where
    makes : (object : Object) → ((r : Region) (w : List Region) → Each (LeadsInto w r) (cells_of object))
        → Moved (made m object)
    makes object plain given allots = go region refl (subst (λ o. Allots region o given)
        (get_append_last m.heap object (length m.heap) refl) allots)
      where
        region_of : (r : Region) → region ≡ Some r → (t : Option ℕ) → t ≡ to
            → HomeAfter fn names (owners ++ r ∷ []) t (value.Object (length m.heap))
        region_of r e None q = tt
        region_of r e (Some d) q = λ n. (
          r,
          ap (λ t. class_region names (target_class (Some fn) t)) q ∙ sym for_target
              ∙ e,
          get_append_last owners r (length m.heap) (sym home.owned),
        )

        memory : (r : Region) → MemoryHome (owners ++ r ∷ []) (record m { heap = m.heap ++ object ∷ [] })
        memory r =
            record {
              owned = length-append owners (r ∷ []) ∙ ap (λ n. n + 1) home.owned
                  ∙ sym (length-append m.heap (object ∷ []));
              cells = λ o x q e w. place o x q (get_snoc m.heap object o x e) w;
              variables = each_more (LeadsInto owners GlobalRegion) (LeadsInto (owners ++ r ∷ []) GlobalRegion)
                  m.variables (more_into owners (r ∷ []) GlobalRegion) home.variables;
            }
          where
            place : (o : ℕ) (x : Object) (q : Region) → (slice_get m.heap o ≡ Some x)
                ⊎ ((o ≡ length m.heap) × (x ≡ object)) → slice_get (owners ++ r ∷ []) o ≡ Some q
                → Each (LeadsInto (owners ++ r ∷ []) q) (cells_of x)
            place o x q (inl e) w =
                let b : o < length owners = let a = slice_get_within m.heap o x e in let l = home.owned in
                omega (arith, a, l) in
                each_more (LeadsInto owners q) (LeadsInto (owners ++ r ∷ []) q) (cells_of x)
                (more_into owners (r ∷ []) q) (home.cells o x q e (sym (get_append_left owners (r ∷ []) o b) ∙ w))
            place o x q (inr (e, is)) w = subst (λ (y : Object). Each (LeadsInto (owners ++ r ∷ []) q) (cells_of y))
                (sym is) (plain q (owners ++ r ∷ []))

        go : (q : Option Region) → region ≡ q → Allots region (Some object) given
            → MemoryHome (owners ++ given) (record m { heap = m.heap ++ object ∷ [] })
            × HomeAfter fn names (owners ++ given) to (value.Object (length m.heap))
        go None e a = absurd (subst (λ x. Allots x (Some object) given) e a)
        go (Some r) e a =
            let is : given ≡ r ∷ [] = subst (λ x. Allots x (Some object) given) e a in (
              subst (λ x. MemoryHome (owners ++ x) (record m { heap = m.heap ++ object ∷ [] })) (sym is) (memory r),
              subst (λ x. HomeAfter fn names (owners ++ x) to (value.Object (length m.heap))) (sym is)
                  (region_of r e to refl),
            )

    news : (structs : List Struct) (n : ℕ) → Moved (new_struct structs n m)
    news structs n = go (slice_get structs n)
      where
        go : (o : Option Struct) → Moved (made_struct o m)
        go None = gives value.Nil tt
        go (Some s) = makes (StructObject (map zero_of s.fields)) (λ r w. zeros_into w r s.fields)

    sizes : (v : Value) (object : ℕ → Object) → ((n : ℕ) (r : Region) (w : List Region)
        → Each (LeadsInto w r) (cells_of (object n))) → Moved (sized object v m)
    sizes (value.Int (pos n)) object h = makes (object n) (h n)
    sizes (value.Int (negsuc n)) object h = tt
    sizes (value.Bool b) object h = gives value.Nil tt
    sizes value.Nil object h = gives value.Nil tt
    sizes (value.Object o) object h = gives value.Nil tt

-- ---- each action, by the number of its operands

module _ (fn : CodeFn) (names : Bindings) (frame : TacFrame) (owners : List Region) (m : Memory)
    (home : MemoryHome owners m) (to : Option ℕ) (structs : List Struct) (ty : «Type») where
  abbrev region_for : Action → Option Region
  region_for action = if makes_object action then class_region names (target_class (Some fn) to) else None

  abbrev Reads : List ℕ → Type 0
  Reads from = (v : ℕ) → Contains from v → LeadsHome owners names (class_of fn v) (value_at frame v)

  without : (action : Action) → ClassesAgree fn (action_joins action to [])
      → Moved fn names owners m home (region_for action) to (on_none structs action m)
  without (action.Int k) joins = gives fn names owners m home (region_for (action.Int k)) to (value.Int k) tt
  without (action.Bool b) joins = gives fn names owners m home (region_for (action.Bool b)) to (value.Bool b) tt
  without action.Nil joins = gives fn names owners m home (region_for action.Nil) to value.Nil tt
  without action.Copy joins = gives fn names owners m home (region_for action.Copy) to value.Nil tt
  without (action.Binary op) joins = gives fn names owners m home (region_for (action.Binary op)) to value.Nil tt
  without action.Neg joins = gives fn names owners m home (region_for action.Neg) to value.Nil tt
  without action.Not joins = gives fn names owners m home (region_for action.Not) to value.Nil tt
  without action.IsNil joins = gives fn names owners m home (region_for action.IsNil) to value.Nil tt
  without action.Len joins = gives fn names owners m home (region_for action.Len) to value.Nil tt
  without (action.Load k) joins = gives fn names owners m home (region_for (action.Load k)) to value.Nil tt
  without (action.Store k) joins = gives fn names owners m home (region_for (action.Store k)) to value.Nil tt
  without action.At joins = gives fn names owners m home (region_for action.At) to value.Nil tt
  without action.Put joins = gives fn names owners m home (region_for action.Put) to value.Nil tt
  without (action.New n) joins = news fn names owners m home (region_for (action.New n)) to refl structs n
  without action.Slice joins = gives fn names owners m home (region_for action.Slice) to value.Nil tt
  without action.Chan joins = gives fn names owners m home (region_for action.Chan) to value.Nil tt
  without action.Recv joins = gives fn names owners m home (region_for action.Recv) to value.Nil tt
  without action.Send joins = gives fn names owners m home (region_for action.Send) to value.Nil tt
  without action.Close joins = gives fn names owners m home (region_for action.Close) to value.Nil tt
  without (action.Get n) joins = gets fn names owners m home (region_for (action.Get n)) to n
      (global_first fn names owners m home (region_for (action.Get n)) to n joins)
  without (action.Set n) joins = gives fn names owners m home (region_for (action.Set n)) to value.Nil tt

  with_one : (action : Action) (a : ℕ) → ClassesAgree fn (action_joins action to (a ∷ [])) → Reads (a ∷ [])
      → Moved fn names owners m home (region_for action) to (on_one action ty (value_at frame a) m)
  with_one (action.Int k) a joins reads = gives fn names owners m home (region_for (action.Int k)) to value.Nil tt
  with_one (action.Bool b) a joins reads = gives fn names owners m home (region_for (action.Bool b)) to value.Nil tt
  with_one action.Nil a joins reads = gives fn names owners m home (region_for action.Nil) to value.Nil tt
  with_one action.Copy a joins reads = copies fn names owners m home (region_for action.Copy) to a (value_at frame a)
      (first_of fn names owners m home (region_for action.Copy) to action.Copy a (a ∷ []) (λ d. refl) joins)
      (reads a (contains_here a []))
  with_one (action.Binary op) a joins reads = gives fn names owners m home (region_for (action.Binary op)) to value.Nil
      tt
  with_one action.Neg a joins reads = gives fn names owners m home (region_for action.Neg) to
      (negated_value (value_at frame a)) (negated_plain (value_at frame a))
  with_one action.Not a joins reads = gives fn names owners m home (region_for action.Not) to
      (inverted (value_at frame a)) (inverted_plain (value_at frame a))
  with_one action.IsNil a joins reads = gives fn names owners m home (region_for action.IsNil) to
      (nil_test (value_at frame a)) (nil_test_plain (value_at frame a))
  with_one action.Len a joins reads = gives fn names owners m home (region_for action.Len) to
      (length_of m (value_at frame a)) (length_plain m (value_at frame a))
  with_one (action.Load k) a joins reads = loads fn names owners m home (region_for (action.Load k)) to a k
      (value_at frame a) (first_of fn names owners m home (region_for (action.Load k)) to (action.Load k) a (a ∷ [])
      (λ d. refl) joins) (reads a (contains_here a []))
  with_one (action.Store k) a joins reads = gives fn names owners m home (region_for (action.Store k)) to value.Nil tt
  with_one action.At a joins reads = gives fn names owners m home (region_for action.At) to value.Nil tt
  with_one action.Put a joins reads = gives fn names owners m home (region_for action.Put) to value.Nil tt
  with_one (action.New n) a joins reads = gives fn names owners m home (region_for (action.New n)) to value.Nil tt
  with_one action.Slice a joins reads = sizes fn names owners m home (region_for action.Slice) to refl
      (value_at frame a) _ (λ n r w. each_replicate (LeadsInto w r) n (element_zero ty) (element_into w r ty))
  with_one action.Chan a joins reads = sizes fn names owners m home (region_for action.Chan) to refl (value_at frame a)
      _ (λ n r w. tt)
  with_one action.Recv a joins reads = gives fn names owners m home (region_for action.Recv) to value.Nil tt
  with_one action.Send a joins reads = gives fn names owners m home (region_for action.Send) to value.Nil tt
  with_one action.Close a joins reads = gives fn names owners m home (region_for action.Close) to value.Nil tt
  with_one (action.Get n) a joins reads = gives fn names owners m home (region_for (action.Get n)) to value.Nil tt
  with_one (action.Set n) a joins reads = sets fn names owners m home (region_for (action.Set n)) to a n
      (value_at frame a) (global_operand fn names owners m home (region_for (action.Set n)) to a n joins)
      (reads a (contains_here a []))

  with_two : (action : Action) (a b : ℕ) → ClassesAgree fn (action_joins action to (a ∷ b ∷ [])) → Reads (a ∷ b ∷ [])
      → Moved fn names owners m home (region_for action) to (on_two action (value_at frame a) (value_at frame b) m)
  with_two (action.Int k) a b joins reads = gives fn names owners m home (region_for (action.Int k)) to value.Nil tt
  with_two (action.Bool t) a b joins reads = gives fn names owners m home (region_for (action.Bool t)) to value.Nil tt
  with_two action.Nil a b joins reads = gives fn names owners m home (region_for action.Nil) to value.Nil tt
  with_two action.Copy a b joins reads = gives fn names owners m home (region_for action.Copy) to value.Nil tt
  with_two (action.Binary op) a b joins reads = by_answer fn names owners m home (region_for (action.Binary op)) to
      (binary_of op (value_at frame a) (value_at frame b)) (binary_plain op (value_at frame a) (value_at frame b))
  with_two action.Neg a b joins reads = gives fn names owners m home (region_for action.Neg) to value.Nil tt
  with_two action.Not a b joins reads = gives fn names owners m home (region_for action.Not) to value.Nil tt
  with_two action.IsNil a b joins reads = gives fn names owners m home (region_for action.IsNil) to value.Nil tt
  with_two action.Len a b joins reads = gives fn names owners m home (region_for action.Len) to value.Nil tt
  with_two (action.Load k) a b joins reads = gives fn names owners m home (region_for (action.Load k)) to value.Nil tt
  with_two (action.Store k) a b joins reads = stores fn names owners m home (region_for (action.Store k)) to k
      (value_at frame a) (value_at frame b) (pair fn names owners m home (region_for (action.Store k)) to a b
      (action_joins (action.Store k) to (a ∷ b ∷ [])) refl joins) (reads a (contains_here a (b ∷ [])))
      (reads b (contains_there a (b ∷ []) b (contains_here b [])))
  with_two action.At a b joins reads = ats fn names owners m home (region_for action.At) to a (value_at frame a)
      (value_at frame b) (first_of fn names owners m home (region_for action.At) to action.At a (a ∷ b ∷ []) (λ d. refl)
      joins) (reads a (contains_here a (b ∷ [])))
  with_two action.Put a b joins reads = gives fn names owners m home (region_for action.Put) to value.Nil tt
  with_two (action.New n) a b joins reads = gives fn names owners m home (region_for (action.New n)) to value.Nil tt
  with_two action.Slice a b joins reads = gives fn names owners m home (region_for action.Slice) to value.Nil tt
  with_two action.Chan a b joins reads = gives fn names owners m home (region_for action.Chan) to value.Nil tt
  with_two action.Recv a b joins reads = gives fn names owners m home (region_for action.Recv) to value.Nil tt
  with_two action.Send a b joins reads = gives fn names owners m home (region_for action.Send) to value.Nil tt
  with_two action.Close a b joins reads = gives fn names owners m home (region_for action.Close) to value.Nil tt
  with_two (action.Get n) a b joins reads = gives fn names owners m home (region_for (action.Get n)) to value.Nil tt
  with_two (action.Set n) a b joins reads = gives fn names owners m home (region_for (action.Set n)) to value.Nil tt

  with_three : (action : Action) (a b c : ℕ) → ClassesAgree fn (action_joins action to (a ∷ b ∷ c ∷ []))
      → Reads (a ∷ b ∷ c ∷ []) → Moved fn names owners m home (region_for action) to
      (on_three action (value_at frame a) (value_at frame b) (value_at frame c) m)
  with_three (action.Int k) a b c joins reads = gives fn names owners m home (region_for (action.Int k)) to value.Nil tt
  with_three (action.Bool t) a b c joins reads = gives fn names owners m home (region_for (action.Bool t)) to value.Nil
      tt
  with_three action.Nil a b c joins reads = gives fn names owners m home (region_for action.Nil) to value.Nil tt
  with_three action.Copy a b c joins reads = gives fn names owners m home (region_for action.Copy) to value.Nil tt
  with_three (action.Binary op) a b c joins reads = gives fn names owners m home (region_for (action.Binary op)) to
      value.Nil tt
  with_three action.Neg a b c joins reads = gives fn names owners m home (region_for action.Neg) to value.Nil tt
  with_three action.Not a b c joins reads = gives fn names owners m home (region_for action.Not) to value.Nil tt
  with_three action.IsNil a b c joins reads = gives fn names owners m home (region_for action.IsNil) to value.Nil tt
  with_three action.Len a b c joins reads = gives fn names owners m home (region_for action.Len) to value.Nil tt
  with_three (action.Load k) a b c joins reads = gives fn names owners m home (region_for (action.Load k)) to value.Nil
      tt
  with_three (action.Store k) a b c joins reads = gives fn names owners m home (region_for (action.Store k)) to
      value.Nil tt
  with_three action.At a b c joins reads = gives fn names owners m home (region_for action.At) to value.Nil tt
  with_three action.Put a b c joins reads = puts fn names owners m home (region_for action.Put) to (value_at frame a)
      (value_at frame b) (value_at frame c) (pair fn names owners m home (region_for action.Put) to a c
      (action_joins action.Put to (a ∷ b ∷ c ∷ [])) refl joins) (reads a (contains_here a (b ∷ c ∷ [])))
      (reads c (contains_there a (b ∷ c ∷ []) c (contains_there b (c ∷ []) c (contains_here c []))))
  with_three (action.New n) a b c joins reads = gives fn names owners m home (region_for (action.New n)) to value.Nil tt
  with_three action.Slice a b c joins reads = gives fn names owners m home (region_for action.Slice) to value.Nil tt
  with_three action.Chan a b c joins reads = gives fn names owners m home (region_for action.Chan) to value.Nil tt
  with_three action.Recv a b c joins reads = gives fn names owners m home (region_for action.Recv) to value.Nil tt
  with_three action.Send a b c joins reads = gives fn names owners m home (region_for action.Send) to value.Nil tt
  with_three action.Close a b c joins reads = gives fn names owners m home (region_for action.Close) to value.Nil tt
  with_three (action.Get n) a b c joins reads = gives fn names owners m home (region_for (action.Get n)) to value.Nil tt
  with_three (action.Set n) a b c joins reads = gives fn names owners m home (region_for (action.Set n)) to value.Nil tt

  performs : (action : Action) (from : List ℕ) → ClassesAgree fn (action_joins action to from) → Reads from
      → Moved fn names owners m home (region_for action) to (perform structs action ty (operand_values frame from) m)
  performs action [] joins reads = without action joins
  performs action (a ∷ []) joins reads = with_one action a joins reads
  performs action (a ∷ b ∷ []) joins reads = with_two action a b joins reads
  performs action (a ∷ b ∷ c ∷ []) joins reads = with_three action a b c joins reads
  performs action (a ∷ b ∷ c ∷ d ∷ more) joins reads = gives fn names owners m home (region_for action) to value.Nil tt

  -- if the variables that it reads lead home, each action leaves a memory at home and a value that leads home
  pub homes : (action : Action) (from : List ℕ) → ClassesAgree fn (action_joins action to from)
      → ((v : ℕ) → Contains from v → LeadsHome owners names (class_of fn v) (value_at frame v))
      → MovedIf fn names owners m home (region_for action) to (performed structs action ty (operand_values frame from) m)
  homes (action.Int k) from joins reads = performs (action.Int k) from joins reads
  homes (action.Bool b) from joins reads = performs (action.Bool b) from joins reads
  homes action.Nil from joins reads = performs action.Nil from joins reads
  homes action.Copy from joins reads = performs action.Copy from joins reads
  homes (action.Binary op) from joins reads = performs (action.Binary op) from joins reads
  homes action.Neg from joins reads = performs action.Neg from joins reads
  homes action.Not from joins reads = performs action.Not from joins reads
  homes action.IsNil from joins reads = performs action.IsNil from joins reads
  homes action.Len from joins reads = performs action.Len from joins reads
  homes (action.Load k) from joins reads = performs (action.Load k) from joins reads
  homes (action.Store k) from joins reads = performs (action.Store k) from joins reads
  homes action.At from joins reads = performs action.At from joins reads
  homes action.Put from joins reads = performs action.Put from joins reads
  homes (action.New n) from joins reads = performs (action.New n) from joins reads
  homes action.Slice from joins reads = performs action.Slice from joins reads
  homes action.Chan from joins reads = performs action.Chan from joins reads
  homes action.Recv [] joins reads = performs action.Recv [] joins reads
  homes action.Recv (a ∷ []) joins reads = receives fn names owners m home (region_for action.Recv) to a
      (value_at frame a) (zero_of ty) (zero_plain ty) (first_of fn names owners m home (region_for action.Recv) to
      action.Recv a (a ∷ []) (λ d. refl) joins) (reads a (contains_here a []))
  homes action.Recv (a ∷ b ∷ more) joins reads = performs action.Recv (a ∷ b ∷ more) joins reads
  homes action.Send [] joins reads = performs action.Send [] joins reads
  homes action.Send (a ∷ []) joins reads = performs action.Send (a ∷ []) joins reads
  homes action.Send (a ∷ b ∷ []) joins reads = silences_if fn names owners m home (region_for action.Send) to
      (send m (value_at frame a) (value_at frame b)) (sends fn names owners m home (region_for action.Send) to
      (value_at frame a) (value_at frame b) (pair fn names owners m home (region_for action.Send) to a b
      (action_joins action.Send to (a ∷ b ∷ [])) refl joins) (reads a (contains_here a (b ∷ [])))
      (reads b (contains_there a (b ∷ []) b (contains_here b []))))
  homes action.Send (a ∷ b ∷ c ∷ more) joins reads = performs action.Send (a ∷ b ∷ c ∷ more) joins reads
  homes action.Close [] joins reads = performs action.Close [] joins reads
  homes action.Close (a ∷ []) joins reads = silences fn names owners m home (region_for action.Close) to
      (close m (value_at frame a)) (closes fn names owners m home (region_for action.Close) to (value_at frame a))
  homes action.Close (a ∷ b ∷ more) joins reads = performs action.Close (a ∷ b ∷ more) joins reads
  homes (action.Get n) from joins reads = performs (action.Get n) from joins reads
  homes (action.Set n) from joins reads = performs (action.Set n) from joins reads
