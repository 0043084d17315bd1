-- The context after each statement, and the checked nodes of statements in the order of checking. The two are separate functions: what
-- a statement declares does not depend on whether it breaks a rule. Why: docs/DECISIONS.md, "Checking: the order".
use Rattle.std.specs.Prelude.{ℕ, Bool, true, pos, List, [], ◌∷◌, ◌++◌, Option, Some, None}
use Rattle.rgo_ast.specs.Tree as tree
use Rattle.rgo_ast.specs.Tree.{Expr, Exprs, Stmt, Stmts, Clause, LocalVar}
use Rattle.rgo_ast.specs.Places.{place_of}
use Rattle.rgo_ast.specs.declared.names.Ident.{Ident}
use Rattle.rgo_ast.specs.declared.ops.AssignOp.{AssignOp}
use Rattle.rgo_ast.specs.declared.ops.AssignOp.TheVariants as assign
use Rattle.rgo_ast.specs.declared.ops.StepOp.{StepOp}
use Rattle.rgo_ast.specs.declared.ops.StepOp.TheVariants as step
use Rattle.rgo_ast.specs.declared.ops.BinaryOp.{BinaryOp}
use Rattle.rgo_ast.specs.declared.ops.BinaryOp.TheVariants as binary
use Rattle.rgo_typed.specs.declared.types.Type.{«Type»}
use Rattle.rgo_typing_rules.specs.Nodes as node
use Rattle.rgo_typing_rules.specs.Nodes.{Node}
use Rattle.rgo_typing_rules.specs.Shapes as shape
use Rattle.rgo_typing_rules.specs.Shapes.{Shape}
use Rattle.rgo_typing_rules.specs.Sites.{Site}
use Rattle.rgo_typing_rules.specs.declared.roles.Role.{Role}
use Rattle.rgo_typing_rules.specs.declared.roles.Role.TheVariants as role
use Rattle.rgo_typing_expressions.specs.Callees.{named_callee, without_parens, may_stand, is_place}
use Rattle.rgo_typing_expressions.specs.Checking.{type_expr_sites, nodes, all_nodes}
use Rattle.rgo_typing_expressions.specs.Packages.{Package, Context}
use Rattle.rgo_typing_expressions.specs.Scopes.{with_local, inside, outside, in_scope, resolved, signature_at, meaning_of}
use Rattle.rgo_typing_expressions.specs.Terms.{type_in}
use Rattle.rgo_typing_expressions.specs.Types.{type_of, types_of}
use Rattle.rgo_typing_expressions.specs.declared.callees.Callee.{Callee}
use Rattle.rgo_typing_expressions.specs.declared.callees.Callee.TheVariants as callee
use Rattle.rgo_typing_packages.specs.Names.{name_site, binding_sites, with_binding}

-- what encloses a statement: its function, by the result type, and whether a `for` does
pub record Enclosing : Type 0 where
  pub result_type : Option «Type»
  pub in_loop : Bool

-- in the body of a `for`, where `break` and `continue` are allowed
abbrev pub within_loop : Enclosing → Enclosing
within_loop f = record { result_type = f.result_type; in_loop = true }

-- ---- contexts

-- in a new block, and after that block
abbrev pub in_block : Context → Context
in_block c = in_scope (inside c.scope) c

-- back in the context around the innermost block
abbrev pub out_of_block : Context → Context
out_of_block c = in_scope (outside c.scope) c

-- after the declaration of the variable x with this type
abbrev pub with_local_variable : Ident → «Type» → Context → Context
with_local_variable x ty c = in_scope (with_local x.name ty c.scope) c

-- the type of a variable that is declared with this type, if any, and a value of this shape
abbrev pub type_or : Option «Type» → Shape → «Type»
type_or None s = type_in s
type_or (Some ty) s = ty

-- a variable that is declared with a value
abbrev pub after_define : Context → Ident → Option «Type» → Expr → Context
after_define c x wanted e = with_local_variable x (type_or wanted (type_of c e)) c

-- after one declaration of a `var`: names with a type, or a name with a value, whose type is written or not
abbrev pub after_var : Context → LocalVar → Context
after_var c (tree.Zero b) = in_scope (with_binding c c.scope b) c
after_var c (tree.Typed x ty e at) = after_define c x (Some (resolved c ty)) e
after_var c (tree.Inferred x e at) = after_define c x None e

-- after several, where each sees the variables of those before it
abbrev pub after_vars : Context → List LocalVar → Context
after_vars c [] = c
after_vars c (v ∷ l) = after_vars (after_var c v) l

abbrev mutual
  -- the context after a statement. Of its variables only those of a declaration are in scope after it, but each number that it used stays
  -- used
  pub context_after : Context → Stmt → Context
  context_after c (tree.Block all at) = out_of_block (after_all (in_block c) all)
  context_after c (tree.Plain e) = c
  context_after c (tree.Send a b at) = c
  context_after c (tree.Step op e at) = c
  context_after c (tree.Assign op a b at) = c
  context_after c (tree.Define x e at) = after_define c x None e
  context_after c (tree.If init test body other at) =
      out_of_block (after_clause (out_of_block (after_all (in_block (after_clause (in_block c) init)) body)) other)
  context_after c (tree.For init test post body at) =
      out_of_block (out_of_block (after_all (in_block (after_clause (after_clause (in_block c) init) post)) body))
  context_after c (tree.Go x args at) = c
  context_after c (tree.Var vars at) = after_vars c vars
  context_after c (tree.Return value at) = c
  context_after c (tree.Break at) = c
  context_after c (tree.Continue at) = c

  -- after all statements of a list, in order
  pub after_all : Context → Stmts → Context
  after_all c tree.no_stmts = c
  after_all c (tree.a_stmt s l) = after_all (context_after c s) l

  -- after a statement that may be left out: the first of an `if` or `for`, the last of a `for`'s header, or what follows `else`
  pub after_clause : Context → Clause → Context
  after_clause c tree.no_clause = c
  after_clause c (tree.a_clause s) = context_after c s

-- after a block with these statements
abbrev pub after_block : Context → Stmts → Context
after_block c all = out_of_block (after_all (in_block c) all)

-- in the block that an `if` or a `for` is, after its first statement
abbrev pub header : Context → Clause → Context
header c init = after_clause (in_block c) init

-- ---- nodes

-- an expression statement
abbrev pub plain_sites : Context → Expr → List Site
plain_sites c e = nodes c role.Alone (without_parens e) ++ (place_of (without_parens e), node.Alone (may_stand c e)) ∷ []

-- a send: the channel, the value, and then the send itself
abbrev pub send_sites : Context → Expr → Expr → ℕ → List Site
send_sites c a b at = nodes c role.Value a ++ (nodes c role.Value b ++ (at, node.Send (type_of c a) (type_of c b)) ∷ [])

-- `++` and `--` by the operator of `+= 1` and `-= 1`
abbrev pub step_op : StepOp → BinaryOp
step_op step.Increment = binary.Add
step_op step.Decrement = binary.Sub

-- `++` and `--`: the operand, which is read and so checked as a value, and then the update by the constant 1
abbrev pub step_sites : Context → BinaryOp → Expr → ℕ → List Site
step_sites c op e at =
    nodes c role.Value e ++ (at, node.Update op (is_place c e) (type_of c e) (shape.Constant (pos 1))) ∷ []

-- the operator of an assignment that computes first; `=` has none
abbrev pub assign_op : AssignOp → Option BinaryOp
assign_op assign.Plain = None
assign_op assign.Add = Some binary.Add
assign_op assign.Sub = Some binary.Sub
assign_op assign.Mul = Some binary.Mul
assign_op assign.Div = Some binary.Div
assign_op assign.Rem = Some binary.Rem

-- the role of the left side: `=` only writes it, an operator also reads it
abbrev pub left_role : Option BinaryOp → Role
left_role None = role.Target
left_role (Some op) = role.Value

-- the assignment itself: whether the left side is a variable, a field or an element, and the shapes of both sides
abbrev pub assign_node : Option BinaryOp → Bool → Shape → Shape → Node
assign_node None place s t = node.Assign place s t
assign_node (Some op) place s t = node.Update op place s t

-- an assignment: the left side, the right side, and then the assignment itself
abbrev pub assign_sites : Context → Option BinaryOp → Expr → Expr → ℕ → List Site
assign_sites c op a b at =
    nodes c (left_role op) a ++ (nodes c role.Value b
    ++ (at, assign_node op (is_place c a) (type_of c a) (type_of c b)) ∷ [])

-- the declaration itself: a value has to fit the type that is written, or fixes the type
abbrev pub define_node : Option «Type» → Shape → Node
define_node None s = node.Define s
define_node (Some ty) s = node.DefineAs ty s

-- a variable that is declared with a value: the value, the name, the declaration
abbrev pub define_sites : Context → Ident → Option «Type» → Expr → ℕ → List Site
define_sites c x wanted e at =
    nodes c role.Value e ++ name_site c.scope x ∷ (at, define_node wanted (type_of c e)) ∷ []

-- without a value the names come first, then the type; with one the type is the first
abbrev pub var_sites : Context → LocalVar → List Site
var_sites c (tree.Zero b) = binding_sites c c.scope b
var_sites c (tree.Typed x ty e at) = type_expr_sites c ty ++ define_sites c x (Some (resolved c ty)) e at
var_sites c (tree.Inferred x e at) = define_sites c x None e at

-- each declaration of a `var`, in the context after those before it
abbrev pub local_vars_sites : Context → List LocalVar → List Site
local_vars_sites c [] = []
local_vars_sites c (v ∷ l) = var_sites c v ++ local_vars_sites (after_var c v) l

-- the `go` itself, at its own place; a name that nothing declares is reported at the name, and a builtin cannot be started
abbrev pub go_site : Package → Callee → List Shape → ℕ → Site
go_site p (callee.Missing name_at) args at = (name_at, node.CallMissing)
go_site p (callee.Routine n) args at = (at, node.Go (signature_at p n) args)
go_site p _ args at = (at, node.GoNothing)

-- a `go`: the arguments, and then the `go` itself; the name has no node of its own
abbrev pub go_sites : Context → Ident → Exprs → ℕ → List Site
go_sites c x args at =
    all_nodes c role.Value args
    ++ go_site c.globals (named_callee x.at (meaning_of c x.name)) (types_of c args) at ∷ []

-- an expression that may be left out
abbrev pub optional_nodes : Context → Option Expr → List Site
optional_nodes c None = []
optional_nodes c (Some e) = nodes c role.Value e

-- the shape of an expression that may be left out
abbrev pub optional_type : Context → Option Expr → Option Shape
optional_type c None = None
optional_type c (Some e) = Some (type_of c e)

-- a `return`: its value, if it has one, and then the `return` itself with the result type of the function
abbrev pub return_sites : Option «Type» → Context → Option Expr → ℕ → List Site
return_sites result_type c value at =
    optional_nodes c value ++ (at, node.Return result_type (optional_type c value)) ∷ []

-- the rule on the condition of a `for`, which comes after its blocks
abbrev pub condition_sites : Option Shape → ℕ → List Site
condition_sites None at = []
condition_sites (Some s) at = (at, node.Condition s) ∷ []

abbrev mutual
  -- the nodes of a statement in the order of checking. That a condition is a bool is checked after the blocks that it governs
  pub stmt_sites : Enclosing → Context → Stmt → List Site
  stmt_sites f c (tree.Block all at) = all_sites f (in_block c) all
  stmt_sites f c (tree.Plain e) = plain_sites c e
  stmt_sites f c (tree.Send a b at) = send_sites c a b at
  stmt_sites f c (tree.Step op e at) = step_sites c (step_op op) e at
  stmt_sites f c (tree.Assign op a b at) = assign_sites c (assign_op op) a b at
  stmt_sites f c (tree.Define x e at) = define_sites c x None e at
  stmt_sites f c (tree.If init test body other at) =
      -- a statement that may be left out
      clause_sites f (in_block c) init
      ++ (nodes (header c init) role.Value test
      ++ (all_sites f (in_block (header c init)) body
      ++ (clause_sites f (after_block (header c init) body) other
      ++ (at, node.Condition (type_of (header c init) test)) ∷ [])))
  stmt_sites f c (tree.For init test post body at) =
      clause_sites f (in_block c) init
      ++ (optional_nodes (header c init) test
      ++ (clause_sites f (header c init) post
      ++ (all_sites (within_loop f) (in_block (after_clause (header c init) post)) body
      ++ condition_sites (optional_type (header c init) test) at)))
  stmt_sites f c (tree.Go x args at) = go_sites c x args at
  stmt_sites f c (tree.Var vars at) = local_vars_sites c vars
  stmt_sites f c (tree.Return value at) = return_sites f.result_type c value at
  stmt_sites f c (tree.Break at) = (at, node.Branch f.in_loop) ∷ []
  stmt_sites f c (tree.Continue at) = (at, node.Branch f.in_loop) ∷ []

  -- each statement of a list, in the context after those before it
  pub all_sites : Enclosing → Context → Stmts → List Site
  all_sites f c tree.no_stmts = []
  all_sites f c (tree.a_stmt s l) = stmt_sites f c s ++ all_sites f (context_after c s) l

  pub clause_sites : Enclosing → Context → Clause → List Site
  clause_sites f c tree.no_clause = []
  clause_sites f c (tree.a_clause s) = stmt_sites f c s
