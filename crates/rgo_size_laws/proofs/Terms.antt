-- The count of an expression's term, by the counts of the terms of its parts. These lemmas are about terms alone and know no lexemes.
use Rattle.std.proofs.Common.{◌≡◌, ℕ, ◌+◌, ◌≤◌, Bool, true, false, List, [], ◌∷◌, Option, Some, None, refl, arith}
use Rattle.std.specs.Prelude.{ℤ}
use Rattle.rgo_ast.specs.declared.ops.UnaryOp.{UnaryOp}
use Rattle.rgo_ast.specs.declared.ops.UnaryOp.TheVariants as unary
use Rattle.rgo_ast.specs.declared.ops.BinaryOp.{BinaryOp}
use Rattle.rgo_ast.specs.declared.ops.BinaryOp.TheVariants as binary
use Rattle.rgo_typed.specs.declared.actions.Action.{Action}
use Rattle.rgo_typed.specs.declared.actions.Action.TheVariants as action
use Rattle.rgo_typed.specs.declared.types.Type.{«Type»}
use Rattle.rgo_typed.specs.Tree as typed
use Rattle.rgo_typed.specs.Tree.{Term, Terms}
use Rattle.rgo_typing_rules.specs.Shapes.{Shape, is_nil_shape}
use Rattle.rgo_typing_rules.specs.Constants.{folded_shape, folded_shapes}
use Rattle.rgo_typing_rules.specs.Builtins.{result_of, action_of}
use Rattle.rgo_typing_rules.specs.declared.meanings.Meaning.{Meaning}
use Rattle.rgo_typing_rules.specs.declared.meanings.Meaning.TheVariants as meaning
use Rattle.rgo_typing_operations.specs.Types.{int, bool}
use Rattle.rgo_typing_operations.specs.Terms.{one, with_type, constant_or_term, unary_term, negated, compared, operation, binary_term}
use Rattle.rgo_typing_expressions.specs.Packages.{Package, Context}
use Rattle.rgo_typing_expressions.specs.Terms.{with_first, with_known, name_term, field_term, builtin_term, call_term}
use Rattle.rgo_typing_expressions.specs.declared.callees.Callee.{Callee}
use Rattle.rgo_typing_expressions.specs.declared.callees.Callee.TheVariants as callee
use Rattle.rgo_lower.specs.Sizes.{term_size, terms_size}

-- a `nil` of another type counts the same
pub retyped : (ty : «Type») (t : Term) → term_size (with_type ty t) ≡ term_size t
retyped ty (typed.Apply action.Nil parts t at) = refl
retyped ty t = refl

pub first_retyped : (types : List «Type») (t : Term) → term_size (with_first types t) ≡ term_size t
first_retyped [] t = refl
first_retyped (ty ∷ types) t = retyped ty t

pub known_retyped : (types : List (Option «Type»)) (t : Term) → term_size (with_known types t) ≡ term_size t
known_retyped [] t = refl
known_retyped (None ∷ types) t = refl
known_retyped (Some ty ∷ types) t = retyped ty t

pub name_small : (c : Context) (m : Option Meaning) (at : ℕ) → term_size (name_term c m at) ≤ 3
name_small c (Some (meaning.Local n)) at = omega arith
name_small c (Some (meaning.Global n)) at = omega arith
name_small c (Some (meaning.Truth b)) at = omega arith
name_small c m at = omega arith

pub field_small : (field : Option (ℕ × «Type»)) (t : Term) (at : ℕ)
    → term_size (field_term field t at) ≤ term_size t + 3
field_small None t at = omega arith
field_small (Some field) t at = omega arith

builtin_small : (o : Option Action) (result : Option «Type») (args : Terms) (at : ℕ)
    → term_size (builtin_term o result args at) ≤ terms_size args + 3
builtin_small None result args at = omega arith
builtin_small (Some a) None args at = omega arith
builtin_small (Some a) (Some ty) args at = omega arith

pub call_small : (p : Package) (f : Callee) (args : Terms) (at : ℕ)
    → term_size (call_term p f args at) ≤ terms_size args + 3
call_small p (callee.Routine n) args at = omega arith
call_small p (callee.Builtin b) args at = builtin_small (action_of b) (result_of b) args at
call_small p f args at = omega arith

-- ---- operations

constant_small : (value : Option ℤ) (at : ℕ) (t : Term) (n : ℕ) → term_size t ≤ n → 3 ≤ n
    → term_size (constant_or_term value at t) ≤ n
constant_small (Some value) at t n h k = k
constant_small None at t n h k = h

pub unary_small : (op : UnaryOp) (s : Shape) (t : Term) (at : ℕ) → term_size (unary_term op s t at) ≤ term_size t + 3
unary_small unary.Plus s t at = omega arith
unary_small unary.Minus s t at =
    constant_small (folded_shape unary.Minus s) at (typed.Apply action.Neg (one t) int at)
    (term_size t + 3) (omega arith) (omega arith)
unary_small unary.Not s t at = omega arith
unary_small unary.Receive s t at = omega arith

abbrev is_nil : Term → ℕ → Term
is_nil t at = typed.Apply action.IsNil (one t) bool at

negated_small : (differs : Bool) (t : Term) (at : ℕ) → term_size (negated differs t at) ≤ term_size t + 3
negated_small true t at = omega arith
negated_small false t at = omega arith

compared_small : (op : BinaryOp) (differs a_is_nil b_is_nil : Bool) (a b : Term) (at : ℕ)
    → term_size (compared op differs a_is_nil b_is_nil a b at) ≤ term_size a + term_size b + 6
compared_small op differs true b_is_nil a b at = omega (arith, negated_small differs (is_nil b at) at)
compared_small op differs false true a b at = omega (arith, negated_small differs (is_nil a at) at)
compared_small op differs false false a b at = omega arith

operation_small : (op : BinaryOp) (s t : Shape) (a b : Term) (at : ℕ)
    → term_size (operation op s t a b at) ≤ term_size a + term_size b + 11
operation_small binary.And s t a b at = omega arith
operation_small binary.Or s t a b at = omega arith
operation_small binary.Eq s t a b at =
    omega (arith, compared_small binary.Eq false (is_nil_shape s) (is_nil_shape t) a b at)
operation_small binary.Ne s t a b at =
    omega (arith, compared_small binary.Ne true (is_nil_shape s) (is_nil_shape t) a b at)
operation_small op s t a b at = omega arith

pub binary_small : (op : BinaryOp) (s t : Shape) (a b : Term) (at : ℕ)
    → term_size (binary_term op s t a b at) ≤ term_size a + term_size b + 11
binary_small op s t a b at =
    constant_small (folded_shapes op s t) at (operation op s t a b at) (term_size a + term_size b + 11)
    (operation_small op s t a b at) (omega arith)
