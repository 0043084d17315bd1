-- The types of operations, and the shapes of their values.
use Rattle.std.specs.Prelude.{ℤ, Option, Some, None}
use Rattle.rgo_ast.specs.declared.ops.UnaryOp.{UnaryOp}
use Rattle.rgo_ast.specs.declared.ops.UnaryOp.TheVariants as unary
use Rattle.rgo_ast.specs.declared.ops.BinaryOp.{BinaryOp}
use Rattle.rgo_ast.specs.declared.ops.BinaryOp.TheVariants as binary
use Rattle.rgo_typed.specs.declared.types.Type.{«Type»}
use Rattle.rgo_typed.specs.declared.types.Base.TheVariants.{Int, Bool as Boolean}
use Rattle.rgo_typing_rules.specs.Types.{plain, element_type_of}
use Rattle.rgo_typing_rules.specs.Shapes as shape
use Rattle.rgo_typing_rules.specs.Shapes.{Shape}

-- the type of ints, with no slice or channel around it
abbrev pub int : «Type»
int = plain Int

-- that of bools
abbrev pub bool : «Type»
bool = plain Boolean

-- the value of an index or a receive, by the shape of the slice or channel. Where the operand is neither, NotIndexable or
-- NotChannel refuses the program before any rule asks for this shape
abbrev pub element_shape : Shape → Shape
element_shape (shape.Value t) = shape.Value (element_type_of t)
element_shape _ = shape.Untyped

-- a constant if there is a value
abbrev pub constant_or : Option ℤ → Shape → Shape
constant_or (Some n) s = shape.Constant n
constant_or None s = s

-- the value of an operator with one operand, unless it is a constant; only that of `<-` depends on the operand
abbrev pub unary_shape : UnaryOp → Shape → Shape
unary_shape unary.Plus s = shape.Value int
unary_shape unary.Minus s = shape.Value int
unary_shape unary.Not s = shape.Value bool
unary_shape unary.Receive s = element_shape s

-- the type of the result of a binary operation
abbrev pub binary_type : BinaryOp → «Type»
binary_type binary.Mul = int
binary_type binary.Div = int
binary_type binary.Rem = int
binary_type binary.Add = int
binary_type binary.Sub = int
binary_type _ = bool
