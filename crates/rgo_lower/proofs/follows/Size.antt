-- Size: how many steps a frame of the source still takes by itself before its code does something. It falls with each of them, so the
-- source cannot move alone for ever.
use Rattle.std.proofs.Common.{ℕ, suc, ◌+◌, List, [], ◌∷◌, Option, Some, None}
use Rattle.rgo_typed.specs.Tree as tree
use Rattle.rgo_typed.specs.Tree.{Term, Terms, Stmt, Stmts}
use Rattle.rgo_meaning.specs.Frames.{SourceFrame, Todo, Evaluate, Each, Fill, Repeat, Forget, Execute, Sequence, Close}
use Rattle.rgo_meaning.specs.Frames.{Onward, Turn, Test, Again}

abbrev mutual
  pub term_weight : Term → ℕ
  term_weight (tree.Local n) = 1
  term_weight (tree.Apply action parts ty place) = suc (terms_weight parts)
  term_weight (tree.Logic logic left right place) = suc (term_weight left)
  term_weight (tree.Build n parts fields place) = suc (suc (terms_weight parts))
  term_weight (tree.Call n arguments ty place) = suc (terms_weight arguments)

  pub terms_weight : Terms → ℕ
  terms_weight tree.no_terms = 1
  terms_weight (tree.a_term t ts) = suc (term_weight t + terms_weight ts)

abbrev pub option_weight : Option Term → ℕ
option_weight None = 0
option_weight (Some t) = term_weight t

-- of a loop, from its condition on
abbrev pub turn_weight : Option Term → (body post : ℕ) → ℕ
turn_weight None body post = suc (body + suc post)
turn_weight (Some t) body post = suc (term_weight t)

abbrev mutual
  pub stmt_weight : Stmt → ℕ
  stmt_weight (tree.Block all) = suc (suc (stmts_weight all))
  stmt_weight (tree.Declare n ty value place) = suc (term_weight value)
  stmt_weight (tree.Zero n ty place) = 1
  stmt_weight (tree.Assign n value place) = suc (term_weight value)
  stmt_weight (tree.Perform action operands place) = suc (terms_weight operands)
  stmt_weight (tree.Update c) = suc (suc (terms_weight c.operands + term_weight c.value))
  stmt_weight (tree.Discard value) = suc (suc (term_weight value))
  stmt_weight (tree.Invoke n arguments place) = suc (terms_weight arguments)
  stmt_weight (tree.Go n arguments place) = suc (terms_weight arguments)
  stmt_weight (tree.Print pieces values place) = suc (terms_weight values)
  stmt_weight (tree.If test body place) = suc (term_weight test)
  stmt_weight (tree.IfElse test body other place) = suc (term_weight test)
  stmt_weight (tree.Loop test body post place) = suc (turn_weight test (stmts_weight body) (stmts_weight post))
  stmt_weight (tree.Break place) = 0
  stmt_weight (tree.Continue place) = 0
  stmt_weight (tree.Return value place) = suc (option_weight value)

  pub stmts_weight : Stmts → ℕ
  stmts_weight tree.no_stmts = 1
  stmts_weight (tree.a_stmt s ss) = suc (stmt_weight s + stmts_weight ss)

abbrev pub item_weight : Todo → ℕ
item_weight (Evaluate t) = term_weight t
item_weight (Each ts) = terms_weight ts
item_weight (Fill count fields place) = 1
item_weight (Repeat count) = 1
item_weight Forget = 1
item_weight (Execute s) = stmt_weight s
item_weight (Sequence ss) = stmts_weight ss
item_weight Close = 1
item_weight _ = 0

-- the items of a loop end the count
abbrev pub todo_size : List Todo → ℕ
todo_size [] = 0
todo_size (Again test body post ∷ todo) = suc (stmts_weight post)
todo_size (Turn test body post ∷ todo) = turn_weight test (stmts_weight body) (stmts_weight post)
todo_size (Test test body post ∷ todo) = 0
todo_size (Onward ∷ todo) = 0
todo_size (item ∷ todo) = item_weight item + todo_size todo

abbrev pub size : SourceFrame → ℕ
size f = todo_size f.todo
