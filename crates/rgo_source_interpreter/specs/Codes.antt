-- How the logic stores a frame: as a tree of numbers that determines the frame.
use Rattle.std.specs.Prelude.{◌≡◌, ℕ, zero, suc, List, [], ◌∷◌, Option, Some, None, refl}
use Rattle.std.proofs.Common.{ap, arith}
use Rattle.std.specs.Coded.{Coded, code_by, coded×, coded_ℕ, coded_list}
use base.Stored.{Gv, gnil, gnum, gcons, num}
use Rattle.rgo_ast.specs.contracts.ops.BinaryOp as operator
use Rattle.rgo_ast.specs.declared.ops.BinaryOp.{BinaryOp}
use Rattle.rgo_typed.specs.contracts.actions.Action as the_action
use Rattle.rgo_typed.specs.declared.actions.Action.{Action}
use Rattle.rgo_typed.specs.contracts.actions.Logical as logical
use Rattle.rgo_typed.specs.declared.actions.Logical.{Logical}
use Rattle.rgo_typed.specs.contracts.statements.Piece as piece
use Rattle.rgo_typed.specs.declared.statements.Piece.{Piece}
use Rattle.rgo_typed.specs.contracts.types.Type as the_type
use Rattle.rgo_typed.specs.declared.types.Type.{«Type»}
use Rattle.rgo_typed.specs.Tree.{Term, Terms, Change, Stmt, Stmts}
use Rattle.rgo_typed.specs.Tree as tree
use Rattle.rgo_memory.specs.contracts.values.Value as value
use Rattle.rgo_memory.specs.declared.values.Value.{Value}
use Rattle.rgo_meaning.specs.Frames.{Todo, SourceFrame}
use Rattle.rgo_meaning.specs.Frames as todo

-- ---- trees

abbrev head : Gv → Gv
head gnil = gnil
head (gnum n) = gnil
head (gcons a b) = a

abbrev tail : Gv → Gv
tail gnil = gnil
tail (gnum n) = gnil
tail (gcons a b) = b

abbrev part : ℕ → Gv → Gv
part zero g = head g
part (suc n) g = part n (tail g)

-- the number of its constructor
abbrev tag : Gv → ℕ
tag g = num (head g)

abbrev row : List Gv → Gv
row [] = gnil
row (g ∷ l) = gcons g (row l)

-- the constructor of this number, with its parts
abbrev node : ℕ → List Gv → Gv
node n parts = gcons (gnum n) (row parts)

-- ---- what trees are made of

abbrev numbers : Coded (List ℕ)
numbers = coded_list coded_ℕ

abbrev actions : Coded Action
actions = the_action.the_row.coded

abbrev logicals : Coded Logical
logicals = logical.the_row.coded

abbrev operators : Coded BinaryOp
operators = operator.the_row.coded

abbrev types : Coded «Type»
types = the_type.the_row.coded

abbrev pieces : Coded (List Piece)
pieces = coded_list piece.the_row.coded

-- ---- terms

abbrev mutual
  pub term_code : Term → Gv
  term_code (tree.Local a) = node 0 (coded_ℕ.code a ∷ [])
  term_code (tree.Apply a b c d) = node 1 (actions.code a ∷ terms_code b ∷ types.code c ∷ coded_ℕ.code d ∷ [])
  term_code (tree.Logic a b c d) = node 2 (logicals.code a ∷ term_code b ∷ term_code c ∷ coded_ℕ.code d ∷ [])
  term_code (tree.Build a b c d) = node 3 (coded_ℕ.code a ∷ terms_code b ∷ numbers.code c ∷ coded_ℕ.code d ∷ [])
  term_code (tree.Call a b c d) = node 4 (coded_ℕ.code a ∷ terms_code b ∷ types.code c ∷ coded_ℕ.code d ∷ [])

  pub terms_code : Terms → Gv
  terms_code tree.no_terms = node 0 []
  terms_code (tree.a_term a b) = node 1 (term_code a ∷ terms_code b ∷ [])

mutual
  pub term_inj : (x y : Term) → term_code x ≡ term_code y → x ≡ y
  term_inj (tree.Local a) (tree.Local a2) p = λ i. tree.Local (coded_ℕ.inj a a2 (ap (part 1) p) i)
  term_inj (tree.Apply a b c d) (tree.Apply a2 b2 c2 d2) p = λ i.
      tree.Apply (actions.inj a a2 (ap (part 1) p) i) (terms_inj b b2 (ap (part 2) p) i)
      (types.inj c c2 (ap (part 3) p) i) (coded_ℕ.inj d d2 (ap (part 4) p) i)
  term_inj (tree.Logic a b c d) (tree.Logic a2 b2 c2 d2) p = λ i.
      tree.Logic (logicals.inj a a2 (ap (part 1) p) i) (term_inj b b2 (ap (part 2) p) i)
      (term_inj c c2 (ap (part 3) p) i) (coded_ℕ.inj d d2 (ap (part 4) p) i)
  term_inj (tree.Build a b c d) (tree.Build a2 b2 c2 d2) p = λ i.
      tree.Build (coded_ℕ.inj a a2 (ap (part 1) p) i) (terms_inj b b2 (ap (part 2) p) i)
      (numbers.inj c c2 (ap (part 3) p) i) (coded_ℕ.inj d d2 (ap (part 4) p) i)
  term_inj (tree.Call a b c d) (tree.Call a2 b2 c2 d2) p = λ i.
      tree.Call (coded_ℕ.inj a a2 (ap (part 1) p) i) (terms_inj b b2 (ap (part 2) p) i)
      (types.inj c c2 (ap (part 3) p) i) (coded_ℕ.inj d d2 (ap (part 4) p) i)
  term_inj x y p = absurd (omega (arith, ap tag p))

  pub terms_inj : (x y : Terms) → terms_code x ≡ terms_code y → x ≡ y
  terms_inj tree.no_terms tree.no_terms p = refl
  terms_inj (tree.a_term a b) (tree.a_term a2 b2) p = λ i.
      tree.a_term (term_inj a a2 (ap (part 1) p) i) (terms_inj b b2 (ap (part 2) p) i)
  terms_inj x y p = absurd (omega (arith, ap tag p))

abbrev pub option_code : Option Term → Gv
option_code None = node 0 []
option_code (Some a) = node 1 (term_code a ∷ [])

pub option_inj : (x y : Option Term) → option_code x ≡ option_code y → x ≡ y
option_inj None None p = refl
option_inj (Some a) (Some a2) p = λ i. Some (term_inj a a2 (ap (part 1) p) i)
option_inj x y p = absurd (omega (arith, ap tag p))

abbrev pub change_code : Change → Gv
change_code c =
    node 0 (terms_code c.operands ∷ actions.code c.read ∷ types.code c.ty ∷ coded_ℕ.code c.read_at ∷ operators.code c.op
    ∷ term_code c.value ∷ actions.code c.write ∷ coded_ℕ.code c.at ∷ [])

pub change_inj : (x y : Change) → change_code x ≡ change_code y → x ≡ y
change_inj c d p = λ i. record {
  operands = terms_inj c.operands d.operands (ap (part 1) p) i;
  read = actions.inj c.read d.read (ap (part 2) p) i;
  ty = types.inj c.ty d.ty (ap (part 3) p) i;
  read_at = coded_ℕ.inj c.read_at d.read_at (ap (part 4) p) i;
  op = operators.inj c.op d.op (ap (part 5) p) i;
  value = term_inj c.value d.value (ap (part 6) p) i;
  write = actions.inj c.write d.write (ap (part 7) p) i;
  at = coded_ℕ.inj c.at d.at (ap (part 8) p) i;
}

-- ---- statements

abbrev mutual
  pub stmt_code : Stmt → Gv
  stmt_code (tree.Block a) = node 0 (stmts_code a ∷ [])
  stmt_code (tree.Declare a b c d) = node 1 (coded_ℕ.code a ∷ types.code b ∷ term_code c ∷ coded_ℕ.code d ∷ [])
  stmt_code (tree.Zero a b c) = node 2 (coded_ℕ.code a ∷ types.code b ∷ coded_ℕ.code c ∷ [])
  stmt_code (tree.Assign a b c) = node 3 (coded_ℕ.code a ∷ term_code b ∷ coded_ℕ.code c ∷ [])
  stmt_code (tree.Perform a b c) = node 4 (actions.code a ∷ terms_code b ∷ coded_ℕ.code c ∷ [])
  stmt_code (tree.Update a) = node 5 (change_code a ∷ [])
  stmt_code (tree.Discard a) = node 6 (term_code a ∷ [])
  stmt_code (tree.Invoke a b c) = node 7 (coded_ℕ.code a ∷ terms_code b ∷ coded_ℕ.code c ∷ [])
  stmt_code (tree.Go a b c) = node 8 (coded_ℕ.code a ∷ terms_code b ∷ coded_ℕ.code c ∷ [])
  stmt_code (tree.Print a b c) = node 9 (pieces.code a ∷ terms_code b ∷ coded_ℕ.code c ∷ [])
  stmt_code (tree.If a b c) = node 10 (term_code a ∷ stmts_code b ∷ coded_ℕ.code c ∷ [])
  stmt_code (tree.IfElse a b c d) = node 11 (term_code a ∷ stmts_code b ∷ stmts_code c ∷ coded_ℕ.code d ∷ [])
  stmt_code (tree.Loop a b c d) = node 12 (option_code a ∷ stmts_code b ∷ stmts_code c ∷ coded_ℕ.code d ∷ [])
  stmt_code (tree.Break a) = node 13 (coded_ℕ.code a ∷ [])
  stmt_code (tree.Continue a) = node 14 (coded_ℕ.code a ∷ [])
  stmt_code (tree.Return a b) = node 15 (option_code a ∷ coded_ℕ.code b ∷ [])

  pub stmts_code : Stmts → Gv
  stmts_code tree.no_stmts = node 0 []
  stmts_code (tree.a_stmt a b) = node 1 (stmt_code a ∷ stmts_code b ∷ [])

mutual
  pub stmt_inj : (x y : Stmt) → stmt_code x ≡ stmt_code y → x ≡ y
  stmt_inj (tree.Block a) (tree.Block a2) p = λ i. tree.Block (stmts_inj a a2 (ap (part 1) p) i)
  stmt_inj (tree.Declare a b c d) (tree.Declare a2 b2 c2 d2) p = λ i.
      tree.Declare (coded_ℕ.inj a a2 (ap (part 1) p) i) (types.inj b b2 (ap (part 2) p) i)
      (term_inj c c2 (ap (part 3) p) i) (coded_ℕ.inj d d2 (ap (part 4) p) i)
  stmt_inj (tree.Zero a b c) (tree.Zero a2 b2 c2) p = λ i.
      tree.Zero (coded_ℕ.inj a a2 (ap (part 1) p) i) (types.inj b b2 (ap (part 2) p) i)
      (coded_ℕ.inj c c2 (ap (part 3) p) i)
  stmt_inj (tree.Assign a b c) (tree.Assign a2 b2 c2) p = λ i.
      tree.Assign (coded_ℕ.inj a a2 (ap (part 1) p) i) (term_inj b b2 (ap (part 2) p) i)
      (coded_ℕ.inj c c2 (ap (part 3) p) i)
  stmt_inj (tree.Perform a b c) (tree.Perform a2 b2 c2) p = λ i.
      tree.Perform (actions.inj a a2 (ap (part 1) p) i) (terms_inj b b2 (ap (part 2) p) i)
      (coded_ℕ.inj c c2 (ap (part 3) p) i)
  stmt_inj (tree.Update a) (tree.Update a2) p = λ i. tree.Update (change_inj a a2 (ap (part 1) p) i)
  stmt_inj (tree.Discard a) (tree.Discard a2) p = λ i. tree.Discard (term_inj a a2 (ap (part 1) p) i)
  stmt_inj (tree.Invoke a b c) (tree.Invoke a2 b2 c2) p = λ i.
      tree.Invoke (coded_ℕ.inj a a2 (ap (part 1) p) i) (terms_inj b b2 (ap (part 2) p) i)
      (coded_ℕ.inj c c2 (ap (part 3) p) i)
  stmt_inj (tree.Go a b c) (tree.Go a2 b2 c2) p = λ i.
      tree.Go (coded_ℕ.inj a a2 (ap (part 1) p) i) (terms_inj b b2 (ap (part 2) p) i)
      (coded_ℕ.inj c c2 (ap (part 3) p) i)
  stmt_inj (tree.Print a b c) (tree.Print a2 b2 c2) p = λ i.
      tree.Print (pieces.inj a a2 (ap (part 1) p) i) (terms_inj b b2 (ap (part 2) p) i)
      (coded_ℕ.inj c c2 (ap (part 3) p) i)
  stmt_inj (tree.If a b c) (tree.If a2 b2 c2) p = λ i.
      tree.If (term_inj a a2 (ap (part 1) p) i) (stmts_inj b b2 (ap (part 2) p) i)
      (coded_ℕ.inj c c2 (ap (part 3) p) i)
  stmt_inj (tree.IfElse a b c d) (tree.IfElse a2 b2 c2 d2) p = λ i.
      tree.IfElse (term_inj a a2 (ap (part 1) p) i) (stmts_inj b b2 (ap (part 2) p) i)
      (stmts_inj c c2 (ap (part 3) p) i) (coded_ℕ.inj d d2 (ap (part 4) p) i)
  stmt_inj (tree.Loop a b c d) (tree.Loop a2 b2 c2 d2) p = λ i.
      tree.Loop (option_inj a a2 (ap (part 1) p) i) (stmts_inj b b2 (ap (part 2) p) i)
      (stmts_inj c c2 (ap (part 3) p) i) (coded_ℕ.inj d d2 (ap (part 4) p) i)
  stmt_inj (tree.Break a) (tree.Break a2) p = λ i. tree.Break (coded_ℕ.inj a a2 (ap (part 1) p) i)
  stmt_inj (tree.Continue a) (tree.Continue a2) p = λ i. tree.Continue (coded_ℕ.inj a a2 (ap (part 1) p) i)
  stmt_inj (tree.Return a b) (tree.Return a2 b2) p = λ i.
      tree.Return (option_inj a a2 (ap (part 1) p) i) (coded_ℕ.inj b b2 (ap (part 2) p) i)
  stmt_inj x y p = absurd (omega (arith, ap tag p))

  pub stmts_inj : (x y : Stmts) → stmts_code x ≡ stmts_code y → x ≡ y
  stmts_inj tree.no_stmts tree.no_stmts p = refl
  stmts_inj (tree.a_stmt a b) (tree.a_stmt a2 b2) p = λ i.
      tree.a_stmt (stmt_inj a a2 (ap (part 1) p) i) (stmts_inj b b2 (ap (part 2) p) i)
  stmts_inj x y p = absurd (omega (arith, ap tag p))

-- ---- what is to do

abbrev pub todo_code : Todo → Gv
todo_code (todo.Evaluate a) = node 0 (term_code a ∷ [])
todo_code (todo.Each a) = node 1 (terms_code a ∷ [])
todo_code (todo.Perform a b c d) = node 2 (actions.code a ∷ coded_ℕ.code b ∷ types.code c ∷ coded_ℕ.code d ∷ [])
todo_code (todo.Affect a b c) = node 3 (actions.code a ∷ coded_ℕ.code b ∷ coded_ℕ.code c ∷ [])
todo_code todo.Settle = node 4 []
todo_code (todo.Decide a b) = node 5 (logicals.code a ∷ term_code b ∷ [])
todo_code (todo.Create a) = node 6 (coded_ℕ.code a ∷ [])
todo_code (todo.Fill a b c) = node 7 (coded_ℕ.code a ∷ numbers.code b ∷ coded_ℕ.code c ∷ [])
todo_code (todo.Repeat a) = node 8 (coded_ℕ.code a ∷ [])
todo_code (todo.Give a) = node 9 (coded_ℕ.code a ∷ [])
todo_code todo.Forget = node 10 []
todo_code (todo.Clear a b) = node 11 (coded_ℕ.code a ∷ types.code b ∷ [])
todo_code (todo.Enter a b) = node 12 (coded_ℕ.code a ∷ coded_ℕ.code b ∷ [])
todo_code (todo.Start a b) = node 13 (coded_ℕ.code a ∷ coded_ℕ.code b ∷ [])
todo_code (todo.Write a b) = node 14 (pieces.code a ∷ coded_ℕ.code b ∷ [])
todo_code (todo.Execute a) = node 15 (stmt_code a ∷ [])
todo_code (todo.Sequence a) = node 16 (stmts_code a ∷ [])
todo_code (todo.When a) = node 17 (stmts_code a ∷ [])
todo_code (todo.Choose a b) = node 18 (stmts_code a ∷ stmts_code b ∷ [])
todo_code todo.Close = node 19 []
todo_code todo.Onward = node 20 []
todo_code (todo.Turn a b c) = node 21 (option_code a ∷ stmts_code b ∷ stmts_code c ∷ [])
todo_code (todo.Test a b c) = node 22 (option_code a ∷ stmts_code b ∷ stmts_code c ∷ [])
todo_code (todo.Again a b c) = node 23 (option_code a ∷ stmts_code b ∷ stmts_code c ∷ [])
todo_code todo.Leave = node 24 []
todo_code todo.Stay = node 25 []

pub todo_inj : (x y : Todo) → todo_code x ≡ todo_code y → x ≡ y
todo_inj (todo.Evaluate a) (todo.Evaluate a2) p = λ i. todo.Evaluate (term_inj a a2 (ap (part 1) p) i)
todo_inj (todo.Each a) (todo.Each a2) p = λ i. todo.Each (terms_inj a a2 (ap (part 1) p) i)
todo_inj (todo.Perform a b c d) (todo.Perform a2 b2 c2 d2) p = λ i.
    todo.Perform (actions.inj a a2 (ap (part 1) p) i) (coded_ℕ.inj b b2 (ap (part 2) p) i)
    (types.inj c c2 (ap (part 3) p) i) (coded_ℕ.inj d d2 (ap (part 4) p) i)
todo_inj (todo.Affect a b c) (todo.Affect a2 b2 c2) p = λ i.
    todo.Affect (actions.inj a a2 (ap (part 1) p) i) (coded_ℕ.inj b b2 (ap (part 2) p) i)
    (coded_ℕ.inj c c2 (ap (part 3) p) i)
todo_inj todo.Settle todo.Settle p = refl
todo_inj (todo.Decide a b) (todo.Decide a2 b2) p = λ i.
    todo.Decide (logicals.inj a a2 (ap (part 1) p) i) (term_inj b b2 (ap (part 2) p) i)
todo_inj (todo.Create a) (todo.Create a2) p = λ i. todo.Create (coded_ℕ.inj a a2 (ap (part 1) p) i)
todo_inj (todo.Fill a b c) (todo.Fill a2 b2 c2) p = λ i.
    todo.Fill (coded_ℕ.inj a a2 (ap (part 1) p) i) (numbers.inj b b2 (ap (part 2) p) i)
    (coded_ℕ.inj c c2 (ap (part 3) p) i)
todo_inj (todo.Repeat a) (todo.Repeat a2) p = λ i. todo.Repeat (coded_ℕ.inj a a2 (ap (part 1) p) i)
todo_inj (todo.Give a) (todo.Give a2) p = λ i. todo.Give (coded_ℕ.inj a a2 (ap (part 1) p) i)
todo_inj todo.Forget todo.Forget p = refl
todo_inj (todo.Clear a b) (todo.Clear a2 b2) p = λ i.
    todo.Clear (coded_ℕ.inj a a2 (ap (part 1) p) i) (types.inj b b2 (ap (part 2) p) i)
todo_inj (todo.Enter a b) (todo.Enter a2 b2) p = λ i.
    todo.Enter (coded_ℕ.inj a a2 (ap (part 1) p) i) (coded_ℕ.inj b b2 (ap (part 2) p) i)
todo_inj (todo.Start a b) (todo.Start a2 b2) p = λ i.
    todo.Start (coded_ℕ.inj a a2 (ap (part 1) p) i) (coded_ℕ.inj b b2 (ap (part 2) p) i)
todo_inj (todo.Write a b) (todo.Write a2 b2) p = λ i.
    todo.Write (pieces.inj a a2 (ap (part 1) p) i) (coded_ℕ.inj b b2 (ap (part 2) p) i)
todo_inj (todo.Execute a) (todo.Execute a2) p = λ i. todo.Execute (stmt_inj a a2 (ap (part 1) p) i)
todo_inj (todo.Sequence a) (todo.Sequence a2) p = λ i. todo.Sequence (stmts_inj a a2 (ap (part 1) p) i)
todo_inj (todo.When a) (todo.When a2) p = λ i. todo.When (stmts_inj a a2 (ap (part 1) p) i)
todo_inj (todo.Choose a b) (todo.Choose a2 b2) p = λ i.
    todo.Choose (stmts_inj a a2 (ap (part 1) p) i) (stmts_inj b b2 (ap (part 2) p) i)
todo_inj todo.Close todo.Close p = refl
todo_inj todo.Onward todo.Onward p = refl
todo_inj (todo.Turn a b c) (todo.Turn a2 b2 c2) p = λ i.
    todo.Turn (option_inj a a2 (ap (part 1) p) i) (stmts_inj b b2 (ap (part 2) p) i)
    (stmts_inj c c2 (ap (part 3) p) i)
todo_inj (todo.Test a b c) (todo.Test a2 b2 c2) p = λ i.
    todo.Test (option_inj a a2 (ap (part 1) p) i) (stmts_inj b b2 (ap (part 2) p) i)
    (stmts_inj c c2 (ap (part 3) p) i)
todo_inj (todo.Again a b c) (todo.Again a2 b2 c2) p = λ i.
    todo.Again (option_inj a a2 (ap (part 1) p) i) (stmts_inj b b2 (ap (part 2) p) i)
    (stmts_inj c c2 (ap (part 3) p) i)
todo_inj todo.Leave todo.Leave p = refl
todo_inj todo.Stay todo.Stay p = refl
todo_inj x y p = absurd (omega (arith, ap tag p))

abbrev pub coded_todo : Coded Todo
coded_todo = record { code = todo_code; inj = todo_inj }

abbrev pub coded_values : Coded (List Value)
coded_values = coded_list value.the_row.coded

abbrev pub coded_frame : Coded SourceFrame
coded_frame =
    code_by (List Value × (List Value × List Todo)) (coded× coded_values (coded× coded_values (coded_list coded_todo)))
    (λ f. (f.locals, (f.values, f.todo))) (λ p. record { locals = p.0; values = p.1.0; todo = p.1.1 }) (λ _. refl)
