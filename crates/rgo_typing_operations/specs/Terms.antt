-- The typed trees of actions and operations on terms.
use Rattle.std.specs.Prelude.{ℕ, Bool, true, false, ℤ, drop, Option, Some, None}
use Rattle.rgo_ast.specs.declared.ops.UnaryOp.{UnaryOp}
use Rattle.rgo_ast.specs.declared.ops.UnaryOp.TheVariants as unary
use Rattle.rgo_ast.specs.declared.ops.BinaryOp.{BinaryOp}
use Rattle.rgo_ast.specs.declared.ops.BinaryOp.TheVariants as binary
use Rattle.rgo_typed.specs.declared.actions.Action.{Action}
use Rattle.rgo_typed.specs.declared.actions.Action.TheVariants as action
use Rattle.rgo_typed.specs.declared.actions.Logical.TheVariants as logical
use Rattle.rgo_typed.specs.declared.types.Type.{«Type»}
use Rattle.rgo_typed.specs.Tree.{Term, Terms, Apply, Logic, no_terms, a_term}
use Rattle.rgo_typing_rules.specs.Shapes as shape
use Rattle.rgo_typing_rules.specs.Shapes.{Shape, is_nil_shape}
use Rattle.rgo_typing_rules.specs.Constants.{folded_shapes, folded_shape}
use Rattle.rgo_typing_operations.specs.Types.{int, bool, binary_type}

-- an action without parts
abbrev pub atom : Action → «Type» → ℕ → Term
atom a ty at = Apply a no_terms ty at

-- a list of one term
abbrev pub one : Term → Terms
one t = a_term t no_terms

-- a list of two
abbrev pub pair_of_terms : Term → Term → Terms
pair_of_terms a b = a_term a (a_term b no_terms)

-- a constant is one `int`
abbrev pub int_constant : ℤ → ℕ → Term
int_constant n at = atom (action.Int n) int at

-- `nil` takes the type that is wanted of it; alone it has none, and later passes need the type of every term
abbrev pub with_type : «Type» → Term → Term
with_type ty (Apply action.Nil parts t at) = Apply action.Nil parts ty at
with_type ty t = t

-- the value of a constant operation in place of its term
abbrev pub constant_or_term : Option ℤ → ℕ → Term → Term
constant_or_term (Some n) at t = int_constant n at
constant_or_term None at t = t

-- the type of the elements of a slice or channel of this shape; `int` if it has no type, in a program that is refused
abbrev pub element_type : Shape → «Type»
element_type (shape.Value t) = record { layers = drop 1 t.layers; base = t.base }
element_type _ = int

-- an operator with one operand; `+` leaves nothing, and `-` of a constant is a constant
abbrev pub unary_term : UnaryOp → Shape → Term → ℕ → Term
unary_term unary.Plus s t at = t
unary_term unary.Minus s t at = constant_or_term (folded_shape unary.Minus s) at (Apply action.Neg (one t) int at)
unary_term unary.Not s t at = Apply action.Not (one t) bool at
unary_term unary.Receive s t at = Apply action.Recv (one t) (element_type s) at

-- t, or its negation for `!=`
abbrev pub negated : Bool → Term → ℕ → Term
negated true t at = Apply action.Not (one t) bool at
negated false t at = t

-- a comparison; with `nil` on one side a test of the other side
abbrev pub compared : BinaryOp → Bool → Bool → Bool → Term → Term → ℕ → Term
compared op differs true b_is_nil a b at = negated differs (Apply action.IsNil (one b) bool at) at
compared op differs false true a b at = negated differs (Apply action.IsNil (one a) bool at) at
compared op differs false false a b at = Apply (action.Binary op) (pair_of_terms a b) bool at

-- a binary operation that is left to the run, on operands of these shapes
abbrev pub operation : BinaryOp → Shape → Shape → Term → Term → ℕ → Term
operation binary.And s t a b at = Logic logical.And a b at
operation binary.Or s t a b at = Logic logical.Or a b at
operation binary.Eq s t a b at = compared binary.Eq false (is_nil_shape s) (is_nil_shape t) a b at
operation binary.Ne s t a b at = compared binary.Ne true (is_nil_shape s) (is_nil_shape t) a b at
operation op s t a b at = Apply (action.Binary op) (pair_of_terms a b) (binary_type op) at

-- a binary operation, which is a constant if both operands are
abbrev pub binary_term : BinaryOp → Shape → Shape → Term → Term → ℕ → Term
binary_term op s t a b at = constant_or_term (folded_shapes op s t) at (operation op s t a b at)
