-- The nodes of a program that are checked against the rules, each with what the rules ask about it and its parts. A node has no tree
-- and no scope, so each rule is a test by cases; which nodes a program has is defined apart, by the crates of the typing.
use Rattle.std.specs.Prelude.{ℕ, Bool, true, false, List, Option}
use Rattle.rgo_ast.specs.declared.ops.UnaryOp.{UnaryOp}
use Rattle.rgo_ast.specs.declared.ops.BinaryOp.{BinaryOp}
use Rattle.rgo_typed.specs.declared.types.Type.{«Type»}
use Rattle.rgo_typing_rules.specs.declared.roles.Role.{Role}
use Rattle.rgo_typing_rules.specs.declared.roles.Role.TheVariants as role
use Rattle.rgo_typing_rules.specs.Shapes.{Shape}
use Rattle.rgo_typing_rules.specs.declared.builtins.Builtin.{Builtin}
use Rattle.rgo_typing_rules.specs.declared.meanings.Meaning.{Meaning}
use Rattle.rgo_typing_rules.specs.Meanings.{Signature}

-- one place of the text that rules are asked about, with everything that any rule asks about it
pub data Node : Type 0 where
  -- an import: whether its path was imported before, and the path
  Import : Bool → List ℕ → Node
  -- a declared name: whether its block, struct or parameter list has declared it before
  Declared : Bool → List ℕ → Node
  -- the end of a function: whether it has a result, and whether its body is terminating
  End : Bool → Bool → Node
  -- the end of the text: whether there is a function `main` without parameters and result
  TextEnd : Bool → Node
  -- a name as a type
  TypeName : Option Meaning → Node
  -- a name after `*` or `&`, or in `new`
  BaseName : Option Meaning → Node
  -- the `*` or the `new` with such a name
  Pointed : Option Meaning → Node
  Number : ℕ → Node
  Text : Role → Node
  Name : Role → Option Meaning → Node
  -- the size of a slice or the capacity of a channel, in `make`
  Size : Shape → Node
  -- a selector: whether its operand is a struct pointer and the struct has the field
  Selector : Bool → Node
  -- the operand and the index
  Index : Shape → Shape → Node
  Unary : UnaryOp → Shape → Node
  Binary : BinaryOp → Shape → Shape → Node
  -- a literal by its values: the types of the struct's fields, if the name is a struct's
  Literal : Option (List «Type») → List Shape → Node
  -- a literal by fields: the type of each element's field, if there is such a field; whether a
  -- field appears twice
  Keyed : Option (List (Option «Type»)) → Bool → List Shape → Node
  -- calls: of a name that nothing declares; of something that is not a function; of a function; of a builtin
  CallMissing : Node
  CallNothing : Node
  Call : Role → Signature → List Shape → Node
  CallBuiltin : Builtin → Role → List Shape → Node
  -- an expression statement: whether it is a call or receive that may be a statement
  Alone : Bool → Node
  -- a send statement: the channel and the value
  Send : Shape → Shape → Node
  -- an assignment: whether its left side is a variable, a field or an element; both sides
  Assign : Bool → Shape → Shape → Node
  -- an assignment with an operator, as `+=`: the operator, and the same
  Update : BinaryOp → Bool → Shape → Shape → Node
  -- a variable declared with a value, without and with a type
  Define : Shape → Node
  DefineAs : «Type» → Shape → Node
  Condition : Shape → Node
  Go : Signature → List Shape → Node
  -- `go` of something that is not a function
  GoNothing : Node
  -- the function's result, and what is returned
  Return : Option «Type» → Option Shape → Node
  -- `break` or `continue`: whether it is inside a `for`
  Branch : Bool → Node

-- An expression has to have a value, unless it is an expression statement or the left side of `=`.
abbrev pub wants_value : Role → Bool
wants_value role.Value = true
wants_value role.Printed = true
wants_value role.Alone = false
wants_value role.Target = false

-- an argument of `fmt.Println`, the only place for a string
abbrev pub is_printed : Role → Bool
is_printed role.Printed = true
is_printed _ = false

-- the left side of `=`, which is written and not read
abbrev pub is_target : Role → Bool
is_target role.Target = true
is_target _ = false
