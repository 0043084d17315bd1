-- The law of the typing: if no node breaks a rule, each expression has a type. So the shape without a type, which the definitions need
-- to be total, never reaches a rule, and no rule has to say what holds of it.
use Rattle.std.specs.Prelude.{◌≡◌, Bool, true, false, not, None}
use Rattle.std.specs.List.{list_all}
use Rattle.rgo_ast.specs.Tree as tree
use Rattle.rgo_ast.specs.Tree.{Expr, Exprs, Capacity}
use Rattle.rgo_typing_rules.specs.declared.roles.Role.{Role}
use Rattle.rgo_typing_rules.specs.declared.roles.Role.TheVariants as role
use Rattle.rgo_typing_rules.specs.Nodes.{wants_value, is_printed, is_target}
use Rattle.rgo_typing_rules.specs.Shapes as shape
use Rattle.rgo_typing_rules.specs.Shapes.{Shape}
use Rattle.rgo_typing_expressions.specs.Callees.{args_role}
use Rattle.rgo_typing_expressions.specs.Checking.{nodes, parts, values_of}
use Rattle.rgo_typing_expressions.specs.Packages.{Context}
use Rattle.rgo_typing_rules.specs.Sites.{first_refusal}
use Rattle.rgo_typing_expressions.specs.Types.{type_of, types_of}

-- It has a type, or is `nil`. A string is allowed if it is printed, and a call without result if no value is
-- wanted.
abbrev pub is_typed : Role → Shape → Bool
is_typed r shape.Untyped = false
is_typed r shape.Text = is_printed r
is_typed r shape.NoResult = not (wants_value r)
is_typed r _ = true

-- the left side of `=` may name something that is not a value; the assignment is refused then
abbrev pub TypedWhereUnbroken : Type 0
TypedWhereUnbroken =
    (c : Context) → (r : Role) → (e : Expr) → is_target r ≡ false
    → first_refusal (nodes c r e) ≡ None → is_typed r (type_of c e) ≡ true

abbrev pub room_in : Capacity → Exprs
room_in tree.no_capacity = tree.no_exprs
room_in (tree.a_capacity e) = tree.an_expr e tree.no_exprs

abbrev pub one_expr : Expr → Exprs
one_expr e = tree.an_expr e tree.no_exprs

-- the expressions whose types the rules ask for at a node
abbrev pub operands : Expr → Exprs
operands (tree.Paren e at) = operands e
operands (tree.MakeSlice ty e at) = one_expr e
operands (tree.MakeChan ty room at) = room_in room
operands (tree.Select e field) = one_expr e
operands (tree.Index a i at) = tree.an_expr a (one_expr i)
operands (tree.Called f args at) = args
operands (tree.Unary op e at) = one_expr e
operands (tree.Binary op a b at) = tree.an_expr a (one_expr b)
operands (tree.Literal x values at) = values
operands (tree.Keyed x members at) = values_of members
operands _ = tree.no_exprs

-- what they are checked as
abbrev pub operands_role : Context → Expr → Role
operands_role c (tree.Paren e at) = operands_role c e
operands_role c (tree.Called f args at) = args_role c f
operands_role c _ = role.Value

-- if no earlier node breaks a rule, the parts of a node are typed
abbrev pub TypedParts : Type 0
TypedParts =
    (c : Context) → (e : Expr) → first_refusal (parts c e) ≡ None
    → list_all (is_typed (operands_role c e)) (types_of c (operands e)) ≡ true
