-- Which statements are terminating, and which contain a `break` that leaves the `for` around them. It is defined on source trees, since
-- the rule on a missing `return` is about these; rgo_wellformed has the same for typed trees, and rgo_typing_laws that they agree.
use Rattle.std.specs.Prelude.{Bool, true, false, not, ◌&&◌, ◌||◌, Option, Some, None}
use Rattle.rgo_ast.specs.Tree as tree
use Rattle.rgo_ast.specs.Tree.{Expr, Stmt, Stmts, Clause}

abbrev mutual
  -- a `break` in it leaves the `for` around it; one in a `for` of its own does not
  pub stmt_breaks : Stmt → Bool
  stmt_breaks (tree.Block all at) = stmts_break all
  stmt_breaks (tree.If init test body other at) = stmts_break body || clause_breaks other
  stmt_breaks (tree.Break at) = true
  stmt_breaks _ = false

  -- the same of one of these statements
  pub stmts_break : Stmts → Bool
  stmts_break tree.no_stmts = false
  stmts_break (tree.a_stmt s l) = stmt_breaks s || stmts_break l

  -- the same of what follows `else`, if there is one
  pub clause_breaks : Clause → Bool
  clause_breaks tree.no_clause = false
  clause_breaks (tree.a_clause s) = stmt_breaks s

-- a `for` with this condition and body has no condition, and no `break` leaves it
abbrev pub is_endless_for : Option Expr → Stmts → Bool
is_endless_for None body = not (stmts_break body)
is_endless_for (Some test) body = false

abbrev mutual
  -- a `return`; a block whose last statement is terminating; an `if` with an `else` whose branches both are; a `for` without a condition
  -- that no `break` leaves
  pub stmt_terminates : Stmt → Bool
  stmt_terminates (tree.Block all at) = stmts_terminate all
  stmt_terminates (tree.If init test body other at) = stmts_terminate body && clause_terminates other
  stmt_terminates (tree.For init test post body at) = is_endless_for test body
  stmt_terminates (tree.Return value at) = true
  stmt_terminates _ = false

  -- the last of these statements is terminating
  pub stmts_terminate : Stmts → Bool
  stmts_terminate tree.no_stmts = false
  stmts_terminate (tree.a_stmt s tree.no_stmts) = stmt_terminates s
  stmts_terminate (tree.a_stmt s (tree.a_stmt t l)) = stmts_terminate (tree.a_stmt t l)

  -- there is an `else`, and what follows it is terminating
  pub clause_terminates : Clause → Bool
  clause_terminates tree.no_clause = false
  clause_terminates (tree.a_clause s) = stmt_terminates s
