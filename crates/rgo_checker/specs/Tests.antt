-- What the checker computes for the rules on existence and on types, of three-address code.
use Rattle.std.specs.Prelude.{ℕ, ◌+◌, Bool, true, false, ◌&&◌, ◌||◌, not, List, [], ◌∷◌, length, take, Option, Some, None, is_some, slice_get, nat_eq, nat_lt, nat_le, bytes_eq, codes, if◌then◌else◌}
use Rattle.std.specs.Cmp.Lexicographic.{pointwise}
use Rattle.std.specs.List.{list_all, list_any}
use Rattle.std.specs.Option.{option_map}
use Rattle.rgo_typed.specs.declared.actions.Action.{Action}
use Rattle.rgo_typed.specs.declared.actions.Action.TheVariants as action
use Rattle.rgo_typed.specs.declared.programs.Struct.{Struct}
use Rattle.rgo_typed.specs.declared.types.Base.{Base}
use Rattle.rgo_typed.specs.declared.types.Base.TheVariants as base
use Rattle.rgo_typed.specs.declared.types.Type.{«Type»}
use Rattle.rgo_typed.specs.Types.{is_pointer_like}
use Rattle.rgo_tac.specs.Code.{Op, TacFn, Tac, Do, Call, Go, Print, Jump, Branch, Return}
use Rattle.rgo_tac.specs.Flow.{reads, writes}
use Rattle.rgo_code.specs.declared.rules.Rule.{Rule}
use Rattle.rgo_code.specs.Checked.{rule_number}
use Rattle.rgo_code.specs.Exists.{leaves}
use Rattle.rgo_checker.specs.declared.actions.Types.{Types}
use Rattle.rgo_checker.specs.declared.actions.Types.TheVariants.{Zero, One, Two, Three}
use Rattle.rgo_checker.specs.TypeTests.{equals_type, is_bool_type, pointed, returns, takes}

-- the rule, if it is below the limit and not kept
abbrev pub broken_if : ℕ → Rule → Bool → Option Rule
broken_if limit rule kept = if nat_lt (rule_number rule) limit && not kept then Some rule else None

-- ---- existence

abbrev pub base_exists : ℕ → Base → Bool
base_exists count (base.Pointer n) = nat_lt n count
base_exists count _ = true

abbrev pub type_exists : Tac → «Type» → Bool
type_exists code ty = base_exists (length code.structs) ty.base

abbrev pub types_exist : Tac → List «Type» → Bool
types_exist code tys = list_all (type_exists code) tys

abbrev pub result_exists : Tac → Option «Type» → Bool
result_exists code None = true
result_exists code (Some ty) = type_exists code ty

abbrev pub head_exists : Tac → TacFn → Bool
head_exists code f = nat_le f.params (length f.variables) && result_exists code f.result_type

abbrev pub action_exists : Tac → Action → Bool
action_exists code (action.New n) = nat_lt n (length code.structs)
action_exists code (action.Get n) = nat_lt n (length code.variables)
action_exists code (action.Set n) = nat_lt n (length code.variables)
action_exists code (action.Int k) = true
action_exists code (action.Bool b) = true
action_exists code action.Nil = true
action_exists code action.Copy = true
action_exists code (action.Binary op) = true
action_exists code action.Neg = true
action_exists code action.Not = true
action_exists code action.IsNil = true
action_exists code action.Len = true
action_exists code (action.Load k) = true
action_exists code (action.Store k) = true
action_exists code action.At = true
action_exists code action.Put = true
action_exists code action.Slice = true
action_exists code action.Chan = true
action_exists code action.Recv = true
action_exists code action.Send = true
action_exists code action.Close = true

abbrev pub has_fields : ℕ → Option Struct → Bool
has_fields k None = true
has_fields k (Some s) = nat_lt k (length s.fields)

abbrev pub struct_has_field : Tac → ℕ → Option ℕ → Bool
struct_has_field code k None = true
struct_has_field code k (Some n) = has_fields k (slice_get code.structs n)

abbrev pub pointed_by : Option «Type» → Option ℕ
pointed_by None = None
pointed_by (Some ty) = pointed ty

abbrev pub variable_has_field : Tac → TacFn → ℕ → Option ℕ → Bool
variable_has_field code f k None = true
variable_has_field code f k (Some a) = struct_has_field code k (pointed_by (slice_get f.variables a))

abbrev pub field_exists : Tac → TacFn → Action → List ℕ → Bool
field_exists code f (action.Load k) from = variable_has_field code f k (slice_get from 0)
field_exists code f (action.Store k) from = variable_has_field code f k (slice_get from 0)
field_exists code f (action.Int k) from = true
field_exists code f (action.Bool b) from = true
field_exists code f action.Nil from = true
field_exists code f action.Copy from = true
field_exists code f (action.Binary op) from = true
field_exists code f action.Neg from = true
field_exists code f action.Not from = true
field_exists code f action.IsNil from = true
field_exists code f action.Len from = true
field_exists code f action.At from = true
field_exists code f action.Put from = true
field_exists code f (action.New n) from = true
field_exists code f action.Slice from = true
field_exists code f action.Chan from = true
field_exists code f action.Recv from = true
field_exists code f action.Send from = true
field_exists code f action.Close from = true
field_exists code f (action.Get n) from = true
field_exists code f (action.Set n) from = true

abbrev pub both_or_neither : Option ℕ → Option «Type» → Bool
both_or_neither None None = true
both_or_neither None (Some t) = false
both_or_neither (Some d) None = false
both_or_neither (Some d) (Some t) = true

abbrev pub call_exists : Option TacFn → Option ℕ → List ℕ → Bool
call_exists None to from = false
call_exists (Some g) to from = nat_eq (length from) g.params && both_or_neither to g.result_type

abbrev pub start_exists : Option TacFn → List ℕ → Bool
start_exists None from = false
start_exists (Some g) from = nat_eq (length from) g.params

abbrev pub act_exists : Tac → TacFn → Action → List ℕ → Bool
act_exists code f action from = action_exists code action && field_exists code f action from

abbrev pub op_exists : Tac → TacFn → Op → Bool
op_exists code f (Do to action from) = act_exists code f action from
op_exists code f (Call to n from) = call_exists (slice_get code.functions n) to from
op_exists code f (Go n from) = start_exists (slice_get code.functions n) from
op_exists code f (Print pieces from) = true
op_exists code f (Jump target) = nat_lt target (length f.body)
op_exists code f (Branch test target other) = nat_lt target (length f.body) && nat_lt other (length f.body)
op_exists code f (Return value) = true

abbrev pub are_below : ℕ → List ℕ → Bool
are_below count vs = list_all (λ v. nat_lt v count) vs

abbrev pub is_below : ℕ → Option ℕ → Bool
is_below count None = true
is_below count (Some v) = nat_lt v count

abbrev pub variables_exist : Op → ℕ → Bool
variables_exist op count = are_below count (reads op) && is_below count (writes op)

-- the last instruction leaves the function
abbrev pub ends_right : ℕ → ℕ → Op → Bool
ends_right i count op = not (nat_eq (i + 1) count) || leaves op

abbrev pub instr_exists : Tac → TacFn → ℕ → Op → Bool
instr_exists code f i op =
    variables_exist op (length f.variables) && (op_exists code f op && ends_right i (length f.body) op)

abbrev pub is_main_fn : TacFn → Bool
is_main_fn f = bytes_eq f.name (codes "main") && (nat_eq f.params 0 && not (is_some f.result_type))

abbrev pub declares_main : Tac → Bool
declares_main code = list_any is_main_fn code.functions

-- ---- types

abbrev pub types_in : Types → List «Type»
types_in Zero = []
types_in (One a) = a.now ∷ []
types_in (Two a b) = a.now ∷ b.now ∷ []
types_in (Three a b c) = a.now ∷ b.now ∷ c.now ∷ []

abbrev pub with_first_type : Option «Type» → Option (List «Type») → Option (List «Type»)
with_first_type None rest = None
with_first_type (Some t) rest = option_map (λ ts. t ∷ ts) rest

-- the types of the variables of these numbers, if all of them exist
abbrev pub types_at : List «Type» → List ℕ → Option (List «Type»)
types_at types [] = Some []
types_at types (v ∷ vs) = with_first_type (slice_get types v) (types_at types vs)

abbrev pub returns_to : Tac → Action → List «Type» → Option «Type» → Bool
returns_to code action operands None = false
returns_to code action operands (Some t) = returns code action operands t

abbrev pub acts_on : Tac → TacFn → Option ℕ → Action → List «Type» → Bool
acts_on code f None action operands = takes code action operands
acts_on code f (Some d) action operands = returns_to code action operands (slice_get f.variables d)

abbrev pub acts_on_found : Tac → TacFn → Option ℕ → Action → Option (List «Type») → Bool
acts_on_found code f to action None = false
acts_on_found code f to action (Some operands) = acts_on code f to action operands

-- the variables of these numbers have these types
abbrev pub have_types : List «Type» → List ℕ → List «Type» → Bool
have_types types vs wanted = pointwise (λ v t. equals_type (slice_get types v) t) vs wanted

abbrev pub arguments_fit : TacFn → Option TacFn → List ℕ → Bool
arguments_fit f None from = true
arguments_fit f (Some g) from = have_types f.variables from (take g.params g.variables)

abbrev pub has_type : TacFn → Option ℕ → «Type» → Bool
has_type f None t = true
has_type f (Some d) t = equals_type (slice_get f.variables d) t

abbrev pub target_has : TacFn → Option «Type» → Option ℕ → Bool
target_has f None to = true
target_has f (Some t) to = has_type f to t

abbrev pub target_fits : TacFn → Option TacFn → Option ℕ → Bool
target_fits f None to = true
target_fits f (Some g) to = target_has f g.result_type to

abbrev pub call_fits : Tac → TacFn → Option ℕ → ℕ → List ℕ → Bool
call_fits code f to n from =
    arguments_fit f (slice_get code.functions n) from && target_fits f (slice_get code.functions n) to

abbrev pub is_printable_type : Option «Type» → Bool
is_printable_type None = false
is_printable_type (Some t) = not (is_pointer_like t)

abbrev pub are_printed : List «Type» → List ℕ → Bool
are_printed types vs = list_all (λ v. is_printable_type (slice_get types v)) vs

abbrev pub is_test : Option «Type» → Bool
is_test None = false
is_test (Some t) = is_bool_type t

abbrev pub has_result : TacFn → ℕ → Option «Type» → Bool
has_result f v None = false
has_result f v (Some t) = equals_type (slice_get f.variables v) t

abbrev pub return_fits : TacFn → Option ℕ → Bool
return_fits f None = not (is_some f.result_type)
return_fits f (Some v) = has_result f v f.result_type

abbrev pub op_fits : Tac → TacFn → Op → Bool
op_fits code f (Do to action from) = acts_on_found code f to action (types_at f.variables from)
op_fits code f (Call to n from) = call_fits code f to n from
op_fits code f (Go n from) = arguments_fit f (slice_get code.functions n) from
op_fits code f (Print pieces from) = are_printed f.variables from
op_fits code f (Jump target) = true
op_fits code f (Branch test target other) = is_test (slice_get f.variables test)
op_fits code f (Return value) = return_fits f value
