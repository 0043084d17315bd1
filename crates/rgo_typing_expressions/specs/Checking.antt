-- The checked nodes of types and expressions, in the order of checking: the parts from left to right, then the node itself, whose rules
-- ask for the types of the parts. A callee is checked with its call, after the arguments; parentheses have no node.
-- Why: docs/DECISIONS.md, "Checking: the order".
use Rattle.std.specs.Prelude.{ℕ, Bool, true, false, List, [], ◌∷◌, ◌++◌, Option, Some, None, is_some, if◌then◌else◌}
use Rattle.rgo_ast.specs.Tree as tree
use Rattle.rgo_ast.specs.Tree.{Expr, Exprs, Elements, Capacity}
use Rattle.rgo_ast.specs.declared.names.Ident.{Ident}
use Rattle.rgo_typed.specs.declared.types.Type.{«Type»}
use Rattle.rgo_typing_rules.specs.declared.roles.Role.{Role}
use Rattle.rgo_typing_rules.specs.declared.roles.Role.TheVariants as role
use Rattle.rgo_typing_rules.specs.declared.meanings.Meaning.{Meaning}
use Rattle.rgo_typing_rules.specs.declared.meanings.Meaning.TheVariants as meaning
use Rattle.rgo_typing_rules.specs.Nodes as node
use Rattle.rgo_typing_rules.specs.Nodes.{Node}
use Rattle.rgo_typing_rules.specs.Shapes.{Shape}
use Rattle.rgo_scopes.specs.Blocks.{NestedBlocks, found, no_names, declared}
use Rattle.rgo_typing_rules.specs.Sites.{Site}
use Rattle.rgo_typing_expressions.specs.Packages.{Fields, Package, Context}
use Rattle.rgo_typing_expressions.specs.Scopes.{meaning_of, fields_at, signature_at}
use Rattle.rgo_typing_expressions.specs.declared.callees.Callee.{Callee}
use Rattle.rgo_typing_expressions.specs.declared.callees.Callee.TheVariants as callee
use Rattle.rgo_typing_expressions.specs.Callees.{callee_of, is_package_selector, args_role}
use Rattle.rgo_typing_expressions.specs.Types.{type_of, types_of, field_of, field_in}

-- of a type as it is written
abbrev pub type_expr_sites : Context → tree.TypeExpr → List Site
type_expr_sites c (tree.Named x) = (x.at, node.TypeName (meaning_of c x.name)) ∷ []
type_expr_sites c (tree.Pointer x at) =
    (x.at, node.BaseName (meaning_of c x.name)) ∷ (at, node.Pointed (meaning_of c x.name)) ∷ []
type_expr_sites c (tree.Slice ty at) = type_expr_sites c ty
type_expr_sites c (tree.Chan ty at) = type_expr_sites c ty

-- of a struct's name after `&` or in `new`
abbrev pub base_site : Context → Ident → Site
base_site c x = (x.at, node.BaseName (meaning_of c x.name))

-- the types of the fields of the struct that a name means
abbrev pub struct_types : Package → Option Meaning → Option (List «Type»)
struct_types p (Some (meaning.Struct n)) = Some (fields_at p n).types
struct_types p _ = None

-- the type of a field that was looked up, if it was found
abbrev pub known_type : Option (ℕ × «Type») → Option «Type»
known_type None = None
known_type (Some field) = Some field.1

-- the type of each element's field, if there is such a field
abbrev pub field_types : Fields → Elements → List (Option «Type»)
field_types fields tree.no_elements = []
field_types fields (tree.an_element x e l) = known_type (field_in fields x.name) ∷ field_types fields l

-- these, if a name means a struct
abbrev pub known_if : Option Meaning → List (Option «Type») → Option (List (Option «Type»))
known_if (Some (meaning.Struct n)) known = Some known
known_if _ known = None

-- the struct that a name means; 0 if it means none, in a program that is refused
abbrev pub struct_number : Option Meaning → ℕ
struct_number (Some (meaning.Struct n)) = n
struct_number _ = 0

-- the fields of the struct that a name means
abbrev pub struct_fields : Package → Option Meaning → Fields
struct_fields p m = fields_at p (struct_number m)

-- the type of each element's field in a literal by fields; none if the name is not a struct's
abbrev pub element_types : Package → Option Meaning → Elements → Option (List (Option «Type»))
element_types p m members = known_if m (field_types (struct_fields p m) members)

-- one of the elements has the field of an earlier one, or of these
abbrev pub has_twice : NestedBlocks ℕ → Elements → Bool
has_twice seen tree.no_elements = false
has_twice seen (tree.an_element x e l) = if is_some (found x.name seen) then true else has_twice (declared x.name 0 seen) l

-- the values of a literal by fields, without the names of the fields
abbrev pub values_of : Elements → Exprs
values_of tree.no_elements = tree.no_exprs
values_of (tree.an_element x e l) = tree.an_expr e (values_of l)

-- a call by its callee; the role decides whether it needs a result
abbrev pub call_node : Package → Role → Callee → List Shape → Node
call_node p r (callee.Missing at) args = node.CallMissing
call_node p r (callee.Builtin b) args = node.CallBuiltin b r args
call_node p r (callee.Routine n) args = node.Call r (signature_at p n) args
call_node p r callee.Nothing args = node.CallNothing

-- a call is named by its `(`, but a callee that nothing declares by its name
abbrev pub call_place : ℕ → Callee → ℕ
call_place open_at (callee.Missing at) = at
call_place open_at _ = open_at

-- the test of a channel's capacity as a size, at the place of its `make`; a capacity that is left out has none
abbrev pub capacity_own : Context → Capacity → ℕ → List Site
capacity_own c tree.no_capacity at = []
capacity_own c (tree.a_capacity e) at = (at, node.Size (type_of c e)) ∷ []

-- the node itself
abbrev pub own : Context → Role → Expr → List Site
own c r (tree.Number n at) = (at, node.Number n) ∷ []
own c r (tree.Text bytes at) = (at, node.Text r) ∷ []
own c r (tree.Name x) = (x.at, node.Name r (meaning_of c x.name)) ∷ []
own c r (tree.Paren e at) = own c r e
own c r (tree.New x at) = (at, node.Pointed (meaning_of c x.name)) ∷ []
own c r (tree.MakeSlice ty e at) = (at, node.Size (type_of c e)) ∷ []
own c r (tree.MakeChan ty room at) = capacity_own c room at
own c r (tree.Select e field) = (field.at, node.Selector (is_some (field_of c.globals (type_of c e) field.name))) ∷ []
own c r (tree.Index a i at) = (at, node.Index (type_of c a) (type_of c i)) ∷ []
own c r (tree.Called f args at) =
    (call_place at (callee_of c f), call_node c.globals r (callee_of c f) (types_of c args)) ∷ []
own c r (tree.Unary op e at) = (at, node.Unary op (type_of c e)) ∷ []
own c r (tree.Binary op a b at) = (at, node.Binary op (type_of c a) (type_of c b)) ∷ []
own c r (tree.Literal x values at) =
    (at, node.Literal (struct_types c.globals (meaning_of c x.name)) (types_of c values)) ∷ []
own c r (tree.Keyed x members at) = (
  at,
  node.Keyed (element_types c.globals (meaning_of c x.name) members) (has_twice no_names members)
      (types_of c (values_of members)),
) ∷ []

-- these nodes, or none if the test is true
abbrev pub unless : Bool → List Site → List Site
unless true sites = []
unless false sites = sites

abbrev mutual
  -- the nodes of the parts, which are values except for the arguments of `fmt.Println`
  pub parts : Context → Expr → List Site
  parts c (tree.Number n at) = []
  parts c (tree.Text bytes at) = []
  parts c (tree.Name x) = []
  parts c (tree.Paren e at) = parts c e
  parts c (tree.New x at) = base_site c x ∷ []
  parts c (tree.MakeSlice ty e at) = type_expr_sites c ty ++ (parts c e ++ own c role.Value e)
  parts c (tree.MakeChan ty room at) = type_expr_sites c ty ++ capacity_nodes c room
  parts c (tree.Select e field) = parts c e ++ own c role.Value e
  parts c (tree.Index a i at) = (parts c a ++ own c role.Value a) ++ (parts c i ++ own c role.Value i)
  parts c (tree.Called f args at) =
      unless (is_package_selector c f) (parts c f) ++ all_nodes c (args_role c f) args
  parts c (tree.Unary op e at) = parts c e ++ own c role.Value e
  parts c (tree.Binary op a b at) = (parts c a ++ own c role.Value a) ++ (parts c b ++ own c role.Value b)
  parts c (tree.Literal x values at) = base_site c x ∷ all_nodes c role.Value values
  parts c (tree.Keyed x members at) = base_site c x ∷ element_nodes c members

  -- all nodes of each expression of a list, which have one role, from left to right
  pub all_nodes : Context → Role → Exprs → List Site
  all_nodes c r tree.no_exprs = []
  all_nodes c r (tree.an_expr e l) = (parts c e ++ own c r e) ++ all_nodes c r l

  -- the same of the values of a literal by fields
  pub element_nodes : Context → Elements → List Site
  element_nodes c tree.no_elements = []
  element_nodes c (tree.an_element x e l) = (parts c e ++ own c role.Value e) ++ element_nodes c l

  -- the nodes of a channel's capacity, if it has one; its test as a size comes later, with the `make` itself
  pub capacity_nodes : Context → Capacity → List Site
  capacity_nodes c tree.no_capacity = []
  capacity_nodes c (tree.a_capacity e) = parts c e ++ own c role.Value e

-- all nodes of an expression
abbrev pub nodes : Context → Role → Expr → List Site
nodes c r e = parts c e ++ own c r e

-- the nodes of a callee's parts; `fmt` followed by a name has none
abbrev pub callee_nodes : Context → Expr → List Site
callee_nodes c f = unless (is_package_selector c f) (parts c f)
