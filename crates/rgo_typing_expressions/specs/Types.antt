-- The shape of an expression: its type, if it has one. It is a function of the tree and the context and does not ask whether a rule is
-- broken; an expression in which one is has some shape that no rule looks at.
use Rattle.std.specs.Prelude.{ℕ, pos, List, [], ◌∷◌, get_or, Option, Some, None}
use Rattle.rgo_ast.specs.Tree as tree
use Rattle.rgo_ast.specs.Tree.{Expr, Exprs}
use Rattle.rgo_typed.specs.declared.types.Type.{«Type»}
use Rattle.rgo_typed.specs.declared.types.Layer.{Layer}
use Rattle.rgo_typed.specs.declared.types.Base.{Base}
use Rattle.rgo_typed.specs.declared.types.Base.TheVariants.{Pointer}
use Rattle.rgo_typing_rules.specs.Types.{plain, slice_of, chan_of}
use Rattle.rgo_typing_rules.specs.Shapes as shape
use Rattle.rgo_typing_rules.specs.Shapes.{Shape}
use Rattle.rgo_typing_rules.specs.Builtins.{result_of}
use Rattle.rgo_typing_rules.specs.Constants.{folded_shapes, folded_shape}
use Rattle.rgo_typing_rules.specs.declared.meanings.Meaning.{Meaning}
use Rattle.rgo_typing_rules.specs.declared.meanings.Meaning.TheVariants as meaning
use Rattle.rgo_scopes.specs.Blocks.{found}
use Rattle.rgo_typing_expressions.specs.Packages.{Fields, Package, Context}
use Rattle.rgo_typing_expressions.specs.Scopes.{meaning_of, fields_at, variable_type_at, signature_at, local_at}
use Rattle.rgo_typing_expressions.specs.Scopes.{int, bool, resolved, pointer_base}
use Rattle.rgo_typing_expressions.specs.declared.callees.Callee.{Callee}
use Rattle.rgo_typing_expressions.specs.declared.callees.Callee.TheVariants as callee
use Rattle.rgo_typing_expressions.specs.Callees.{callee_of}
pub use Rattle.rgo_typing_operations.specs.Types.{element_shape, constant_or, unary_shape, binary_type}

-- the shape of a name with this meaning; Untyped if it is not a value
abbrev pub shape_of_meaning : Context → Option Meaning → Shape
shape_of_meaning c (Some (meaning.Local n)) = shape.Value (local_at c.scope n)
shape_of_meaning c (Some (meaning.Global n)) = shape.Value (variable_type_at c.globals n)
shape_of_meaning c (Some (meaning.Truth b)) = shape.Value bool
shape_of_meaning c (Some meaning.Nil) = shape.Nil
shape_of_meaning c _ = shape.Untyped

-- the struct that a value of this base points to
abbrev pub struct_base : Base → Option ℕ
struct_base (Pointer n) = Some n
struct_base _ = None

-- the same with these layers around the base: a slice or a channel points to no struct
abbrev pub struct_in : List Layer → Base → Option ℕ
struct_in [] b = struct_base b
struct_in (layer ∷ layers) b = None

-- the struct that a value of this shape points to
abbrev pub pointed_struct : Shape → Option ℕ
pointed_struct (shape.Value t) = struct_in t.layers t.base
pointed_struct _ = None

-- a field's number and type
abbrev pub numbered_field : Fields → Option ℕ → Option (ℕ × «Type»)
numbered_field fields None = None
numbered_field fields (Some k) = Some (k, get_or fields.types k int)

-- the number and type of the field `name`, or none if the struct has no such field
abbrev pub field_in : Fields → List ℕ → Option (ℕ × «Type»)
field_in fields name = numbered_field fields (found name fields.numbers)

-- the same in struct n of the package, if there is a struct
abbrev pub field_of_struct : Package → Option ℕ → List ℕ → Option (ℕ × «Type»)
field_of_struct p None name = None
field_of_struct p (Some n) name = field_in (fields_at p n) name

-- the field of this name of what a value of this shape points to
abbrev pub field_of : Package → Shape → List ℕ → Option (ℕ × «Type»)
field_of p s name = field_of_struct p (pointed_struct s) name

-- the shape of a selector, by the field that was looked up
abbrev pub field_shape : Option (ℕ × «Type») → Shape
field_shape None = shape.Untyped
field_shape (Some field) = shape.Value field.1

-- the shape of a call, by the result type of what is called
abbrev pub result_shape : Option «Type» → Shape
result_shape None = shape.NoResult
result_shape (Some t) = shape.Value t

-- the same by the callee; Untyped if it cannot be called
abbrev pub call_shape : Package → Callee → Shape
call_shape p (callee.Builtin b) = result_shape (result_of b)
call_shape p (callee.Routine n) = result_shape (signature_at p n).result_type
call_shape p _ = shape.Untyped

-- a pointer to the struct that a name means
abbrev pub pointer_shape : Option Meaning → Shape
pointer_shape m = shape.Value (plain (pointer_base m))

-- the shape of an expression in this context. An operation on constants is a constant; otherwise an operator fixes the type of its value,
-- even where its operands break a rule
abbrev pub type_of : Context → Expr → Shape
type_of c (tree.Number n at) = shape.Constant (pos n)
type_of c (tree.Text bytes at) = shape.Text
type_of c (tree.Name x) = shape_of_meaning c (meaning_of c x.name)
type_of c (tree.Paren e at) = type_of c e
type_of c (tree.New x at) = pointer_shape (meaning_of c x.name)
type_of c (tree.MakeSlice ty e at) = shape.Value (slice_of (resolved c ty))
type_of c (tree.MakeChan ty room at) = shape.Value (chan_of (resolved c ty))
type_of c (tree.Select e field) = field_shape (field_of c.globals (type_of c e) field.name)
type_of c (tree.Index a i at) = element_shape (type_of c a)
type_of c (tree.Called f args at) = call_shape c.globals (callee_of c f)
type_of c (tree.Unary op e at) = constant_or (folded_shape op (type_of c e)) (unary_shape op (type_of c e))
type_of c (tree.Binary op a b at) =
    constant_or (folded_shapes op (type_of c a) (type_of c b)) (shape.Value (binary_type op))
type_of c (tree.Literal x values at) = pointer_shape (meaning_of c x.name)
type_of c (tree.Keyed x members at) = pointer_shape (meaning_of c x.name)

-- the shape of each expression of a list, in order
abbrev pub types_of : Context → Exprs → List Shape
types_of c tree.no_exprs = []
types_of c (tree.an_expr e l) = type_of c e ∷ types_of c l
