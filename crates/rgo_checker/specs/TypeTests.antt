-- Tests on types, and what actions take and return, as the checker computes it.
use Rattle.std.specs.Prelude.{ℕ, Bool, true, false, ◌&&◌, not, List, [], ◌∷◌, length, Option, Some, None, slice_get, nat_eq, nat_lt}
use Rattle.std.specs.Cmp.Lexicographic.{pointwise}
use Rattle.rgo_ast.specs.declared.ops.BinaryOp.{BinaryOp}
use Rattle.rgo_ast.specs.declared.ops.BinaryOp.TheVariants as binary
use Rattle.rgo_typed.specs.declared.actions.Action.{Action}
use Rattle.rgo_typed.specs.declared.actions.Action.TheVariants as action
use Rattle.rgo_typed.specs.declared.programs.Struct.{Struct}
use Rattle.rgo_typed.specs.declared.programs.Variable.{Variable}
use Rattle.rgo_typed.specs.declared.types.Base.{Base}
use Rattle.rgo_typed.specs.declared.types.Base.TheVariants as base
use Rattle.rgo_typed.specs.declared.types.Layer.{Layer}
use Rattle.rgo_typed.specs.declared.types.Layer.TheVariants.{Slice, Chan}
use Rattle.rgo_typed.specs.declared.types.Type.{«Type»}
use Rattle.rgo_typed.specs.Types.{is_pointer_like}
use Rattle.rgo_wellformed.specs.TypeRules.{is_slice}
use Rattle.rgo_tac.specs.Code.{Tac}

-- ---- types

abbrev pub equal_bases : Base → Base → Bool
equal_bases base.Int base.Int = true
equal_bases base.Bool base.Bool = true
equal_bases (base.Pointer m) (base.Pointer n) = nat_eq m n
equal_bases _ _ = false

abbrev pub equal_layers : Layer → Layer → Bool
equal_layers Slice Slice = true
equal_layers Chan Chan = true
equal_layers _ _ = false

abbrev pub equal_layer_lists : (ls ms : List Layer) → Bool
equal_layer_lists ls ms = pointwise equal_layers ls ms

abbrev pub equal_types : «Type» → «Type» → Bool
equal_types t u = equal_bases t.base u.base && equal_layer_lists t.layers u.layers

abbrev pub has_no_layers : List Layer → Bool
has_no_layers [] = true
has_no_layers (l ∷ ls) = false

-- a base without layers
abbrev pub is_bare_base : Base → «Type» → Bool
is_bare_base b t = has_no_layers t.layers && equal_bases t.base b

abbrev pub is_int_type : «Type» → Bool
is_int_type t = is_bare_base base.Int t

abbrev pub is_bool_type : «Type» → Bool
is_bool_type t = is_bare_base base.Bool t

abbrev pub first_layer : List Layer → Option Layer
first_layer [] = None
first_layer (l ∷ ls) = Some l

abbrev pub begins_with_chan : List Layer → Bool
begins_with_chan (Chan ∷ layers) = true
begins_with_chan _ = false

abbrev pub is_chan_type : «Type» → Bool
is_chan_type t = begins_with_chan t.layers

-- the first layer is this one, and inside of it are these
abbrev pub are_around : Layer → (outer inner : List Layer) → Bool
are_around layer [] inner = false
are_around layer (l ∷ ls) inner = equal_layers l layer && equal_layer_lists ls inner

-- slices of, or channels of
abbrev pub is_around : Layer → (outer inner : «Type») → Bool
is_around layer outer inner = equal_bases outer.base inner.base && are_around layer outer.layers inner.layers

abbrev pub pointed_base : Base → Option ℕ
pointed_base (base.Pointer n) = Some n
pointed_base _ = None

abbrev pub pointed_in : List Layer → Base → Option ℕ
pointed_in [] b = pointed_base b
pointed_in (l ∷ ls) b = None

-- the struct that a pointer points to
abbrev pub pointed : «Type» → Option ℕ
pointed t = pointed_in t.layers t.base

-- ---- actions

abbrev pub equals_type : Option «Type» → «Type» → Bool
equals_type None t = false
equals_type (Some u) t = equal_types u t

abbrev pub is_field_of : Option Struct → ℕ → «Type» → Bool
is_field_of None k t = false
is_field_of (Some s) k t = equals_type (slice_get s.fields k) t

abbrev pub is_field_in : Tac → Option ℕ → ℕ → «Type» → Bool
is_field_in code None k t = false
is_field_in code (Some n) k t = is_field_of (slice_get code.structs n) k t

-- a pointer to a struct that has a field of this number and type
abbrev pub is_field : Tac → «Type» → ℕ → «Type» → Bool
is_field code pointer k t = is_field_in code (pointed pointer) k t

abbrev pub variable_has_type : Option Variable → «Type» → Bool
variable_has_type None t = false
variable_has_type (Some v) t = equal_types v.ty t

-- a pointer to the struct of this number, which is declared
abbrev pub is_new : Tac → ℕ → «Type» → Bool
is_new code n t = is_bare_base (base.Pointer n) t && nat_lt n (length code.structs)

abbrev pub compares_to_bool : (a b t : «Type») → Bool
compares_to_bool a b t = equal_types a b && (not (is_slice a) && is_bool_type t)

abbrev pub orders : (a b t : «Type») → Bool
orders a b t = is_int_type a && (is_int_type b && is_bool_type t)

abbrev pub counts : (a b t : «Type») → Bool
counts a b t = is_int_type a && (is_int_type b && is_int_type t)

abbrev pub computes : BinaryOp → (a b t : «Type») → Bool
computes binary.Eq a b t = compares_to_bool a b t
computes binary.Ne a b t = compares_to_bool a b t
computes binary.Lt a b t = orders a b t
computes binary.Le a b t = orders a b t
computes binary.Gt a b t = orders a b t
computes binary.Ge a b t = orders a b t
computes binary.And a b t = false
computes binary.Or a b t = false
computes binary.Add a b t = counts a b t
computes binary.Sub a b t = counts a b t
computes binary.Mul a b t = counts a b t
computes binary.Div a b t = counts a b t
computes binary.Rem a b t = counts a b t

abbrev pub returns_of_none : Tac → Action → «Type» → Bool
returns_of_none code (action.Int n) t = is_int_type t
returns_of_none code (action.Bool b) t = is_bool_type t
returns_of_none code action.Nil t = is_pointer_like t
returns_of_none code (action.New n) t = is_new code n t
returns_of_none code (action.Get n) t = variable_has_type (slice_get code.variables n) t
returns_of_none code action.Copy t = false
returns_of_none code (action.Binary op) t = false
returns_of_none code action.Neg t = false
returns_of_none code action.Not t = false
returns_of_none code action.IsNil t = false
returns_of_none code action.Len t = false
returns_of_none code (action.Load k) t = false
returns_of_none code (action.Store k) t = false
returns_of_none code action.At t = false
returns_of_none code action.Put t = false
returns_of_none code action.Slice t = false
returns_of_none code action.Chan t = false
returns_of_none code action.Recv t = false
returns_of_none code action.Send t = false
returns_of_none code action.Close t = false
returns_of_none code (action.Set n) t = false

abbrev pub returns_of_one : Tac → Action → (a t : «Type») → Bool
returns_of_one code action.Copy a t = equal_types a t
returns_of_one code action.Neg a t = is_int_type a && is_int_type t
returns_of_one code action.Not a t = is_bool_type a && is_bool_type t
returns_of_one code action.IsNil a t = is_pointer_like a && is_bool_type t
returns_of_one code action.Len a t = is_slice a && is_int_type t
returns_of_one code (action.Load k) a t = is_field code a k t
returns_of_one code action.Slice a t = is_int_type a && is_slice t
returns_of_one code action.Chan a t = is_int_type a && is_chan_type t
returns_of_one code action.Recv a t = is_around Chan a t
returns_of_one code (action.Int k) a t = false
returns_of_one code (action.Bool b) a t = false
returns_of_one code action.Nil a t = false
returns_of_one code (action.Binary op) a t = false
returns_of_one code (action.Store k) a t = false
returns_of_one code action.At a t = false
returns_of_one code action.Put a t = false
returns_of_one code (action.New n) a t = false
returns_of_one code action.Send a t = false
returns_of_one code action.Close a t = false
returns_of_one code (action.Get n) a t = false
returns_of_one code (action.Set n) a t = false

abbrev pub returns_of_two : Action → (a b t : «Type») → Bool
returns_of_two (action.Binary op) a b t = computes op a b t
returns_of_two action.At a b t = is_around Slice a t && is_int_type b
returns_of_two (action.Int k) a b t = false
returns_of_two (action.Bool truth) a b t = false
returns_of_two action.Nil a b t = false
returns_of_two action.Copy a b t = false
returns_of_two action.Neg a b t = false
returns_of_two action.Not a b t = false
returns_of_two action.IsNil a b t = false
returns_of_two action.Len a b t = false
returns_of_two (action.Load k) a b t = false
returns_of_two (action.Store k) a b t = false
returns_of_two action.Put a b t = false
returns_of_two (action.New n) a b t = false
returns_of_two action.Slice a b t = false
returns_of_two action.Chan a b t = false
returns_of_two action.Recv a b t = false
returns_of_two action.Send a b t = false
returns_of_two action.Close a b t = false
returns_of_two (action.Get n) a b t = false
returns_of_two (action.Set n) a b t = false

-- an action on operands of these types returns a value of type t
abbrev pub returns : Tac → Action → List «Type» → «Type» → Bool
returns code action [] t = returns_of_none code action t
returns code action (a ∷ []) t = returns_of_one code action a t
returns code action (a ∷ b ∷ []) t = returns_of_two action a b t
returns code action (a ∷ b ∷ c ∷ rest) t = false

abbrev pub takes_one : Tac → Action → «Type» → Bool
takes_one code action.Close a = is_chan_type a
takes_one code (action.Set n) a = variable_has_type (slice_get code.variables n) a
takes_one code (action.Int k) a = false
takes_one code (action.Bool b) a = false
takes_one code action.Nil a = false
takes_one code action.Copy a = false
takes_one code (action.Binary op) a = false
takes_one code action.Neg a = false
takes_one code action.Not a = false
takes_one code action.IsNil a = false
takes_one code action.Len a = false
takes_one code (action.Load k) a = false
takes_one code (action.Store k) a = false
takes_one code action.At a = false
takes_one code action.Put a = false
takes_one code (action.New n) a = false
takes_one code action.Slice a = false
takes_one code action.Chan a = false
takes_one code action.Recv a = false
takes_one code action.Send a = false
takes_one code (action.Get n) a = false

abbrev pub takes_two : Tac → Action → (a b : «Type») → Bool
takes_two code (action.Store k) a b = is_field code a k b
takes_two code action.Send a b = is_around Chan a b
takes_two code (action.Int k) a b = false
takes_two code (action.Bool truth) a b = false
takes_two code action.Nil a b = false
takes_two code action.Copy a b = false
takes_two code (action.Binary op) a b = false
takes_two code action.Neg a b = false
takes_two code action.Not a b = false
takes_two code action.IsNil a b = false
takes_two code action.Len a b = false
takes_two code (action.Load k) a b = false
takes_two code action.At a b = false
takes_two code action.Put a b = false
takes_two code (action.New n) a b = false
takes_two code action.Slice a b = false
takes_two code action.Chan a b = false
takes_two code action.Recv a b = false
takes_two code action.Close a b = false
takes_two code (action.Get n) a b = false
takes_two code (action.Set n) a b = false

abbrev pub takes_three : Action → (a b c : «Type») → Bool
takes_three action.Put a b c = is_around Slice a c && is_int_type b
takes_three (action.Int k) a b c = false
takes_three (action.Bool truth) a b c = false
takes_three action.Nil a b c = false
takes_three action.Copy a b c = false
takes_three (action.Binary op) a b c = false
takes_three action.Neg a b c = false
takes_three action.Not a b c = false
takes_three action.IsNil a b c = false
takes_three action.Len a b c = false
takes_three (action.Load k) a b c = false
takes_three (action.Store k) a b c = false
takes_three action.At a b c = false
takes_three (action.New n) a b c = false
takes_three action.Slice a b c = false
takes_three action.Chan a b c = false
takes_three action.Recv a b c = false
takes_three action.Send a b c = false
takes_three action.Close a b c = false
takes_three (action.Get n) a b c = false
takes_three (action.Set n) a b c = false

-- an action without value takes operands of these types
abbrev pub takes : Tac → Action → List «Type» → Bool
takes code action [] = false
takes code action (a ∷ []) = takes_one code action a
takes code action (a ∷ b ∷ []) = takes_two code action a b
takes code action (a ∷ b ∷ c ∷ []) = takes_three action a b c
takes code action (a ∷ b ∷ c ∷ d ∷ rest) = false
