-- Terminating statements (The Go Programming Language Specification, "Terminating statements"), on typed trees. Later passes need it
-- so that a function with a result never reaches its end without one.
use Rattle.std.specs.Prelude.{◌≡◌, Bool, true, false, not, ◌&&◌, ◌||◌, Option, Some, None, ⊤}
use Rattle.rgo_typed.specs.declared.types.Type.{«Type»}
use Rattle.rgo_typed.specs.Tree.{Term, Stmt, Stmts, stmts_of, Function}
use Rattle.rgo_typed.specs.Tree as tree

-- a `break` in it leaves the loop around it
abbrev mutual
  pub has_break : Stmt → Bool
  has_break (tree.Block all) = any_break all
  has_break (tree.If test body at) = any_break body
  has_break (tree.IfElse test body other at) = any_break body || any_break other
  has_break (tree.Break at) = true
  has_break _ = false

  pub any_break : Stmts → Bool
  any_break tree.no_stmts = false
  any_break (tree.a_stmt s l) = has_break s || any_break l

abbrev pub is_forever : Option Term → Stmts → Bool
is_forever None body = not (any_break body)
is_forever (Some test) body = false

-- a `return`; a block whose last statement is terminating; an `if` with an `else` whose branches both are; a loop
-- without a condition that no `break` leaves
abbrev mutual
  pub is_terminating : Stmt → Bool
  is_terminating (tree.Block all) = ends all
  is_terminating (tree.IfElse test body other at) = ends body && ends other
  is_terminating (tree.Loop test body post at) = is_forever test body
  is_terminating (tree.Return value at) = true
  is_terminating _ = false

  pub ends : Stmts → Bool
  ends tree.no_stmts = false
  ends (tree.a_stmt s tree.no_stmts) = is_terminating s
  ends (tree.a_stmt s (tree.a_stmt t l)) = ends (tree.a_stmt t l)

abbrev pub EndsWith : Option «Type» → Function → Type 0
EndsWith None f = ⊤
EndsWith (Some ty) f = ends (stmts_of f.body) ≡ true

-- a function with a result never reaches the end of its body
abbrev pub Ends : Function → Type 0
Ends f = EndsWith f.result_type f
