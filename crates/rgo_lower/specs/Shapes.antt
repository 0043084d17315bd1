-- What lowering requires of a tree, which is less than that it is well-formed: each action has as many operands as it takes, and
-- returns a value where one is used; each number has 32 bits; each local variable that is declared exists; each `break` and
-- `continue` is in a loop. There are no types and no scopes in it, so a function can require it of a part of a tree without knowing
-- what is around that part.
use Rattle.std.specs.Prelude.{ℕ, ◌+◌, ◌^◌, Bool, true, false, ◌&&◌, nat_eq, nat_lt, length, Option, Some, None}
use Rattle.std.specs.List.{list_all}
use Rattle.rgo_ast.specs.declared.ops.BinaryOp.{BinaryOp}
use Rattle.rgo_ast.specs.declared.ops.BinaryOp.TheVariants as binary
use Rattle.rgo_typed.specs.declared.actions.Action.{Action}
use Rattle.rgo_typed.specs.declared.actions.Action.TheVariants as action
use Rattle.rgo_typed.specs.Tree as tree
use Rattle.rgo_typed.specs.Tree.{Term, Terms, Change, Stmt, Stmts}

-- ---- actions

-- the number of a struct, a field, a function or a package variable has 32 bits
abbrev pub is_narrow : ℕ → Bool
is_narrow n = nat_lt n (2 ^ 32)

-- both operands of the operator are evaluated; `&&` and `||` are terms of their own
abbrev pub is_strict : BinaryOp → Bool
is_strict binary.And = false
is_strict binary.Or = false
is_strict _ = true

-- the action takes this many operands and returns a value
abbrev pub returns_value : Action → (operands : ℕ) → Bool
returns_value (action.Int k) n = nat_eq n 0
returns_value (action.Bool b) n = nat_eq n 0
returns_value action.Nil n = nat_eq n 0
returns_value action.Copy n = nat_eq n 1
returns_value (action.Binary op) n = is_strict op && nat_eq n 2
returns_value action.Neg n = nat_eq n 1
returns_value action.Not n = nat_eq n 1
returns_value action.IsNil n = nat_eq n 1
returns_value action.Len n = nat_eq n 1
returns_value (action.Load k) n = nat_eq n 1 && is_narrow k
returns_value action.At n = nat_eq n 2
returns_value (action.New k) n = nat_eq n 0 && is_narrow k
returns_value action.Slice n = nat_eq n 1
returns_value action.Chan n = nat_eq n 1
returns_value action.Recv n = nat_eq n 1
returns_value (action.Get k) n = nat_eq n 0 && is_narrow k
returns_value (action.Store k) n = false
returns_value action.Put n = false
returns_value action.Send n = false
returns_value action.Close n = false
returns_value (action.Set k) n = false

-- the action takes this many operands and returns none
abbrev pub returns_nothing : Action → (operands : ℕ) → Bool
returns_nothing (action.Store k) n = nat_eq n 2 && is_narrow k
returns_nothing action.Put n = nat_eq n 3
returns_nothing action.Send n = nat_eq n 2
returns_nothing action.Close n = nat_eq n 1
returns_nothing (action.Set k) n = nat_eq n 1 && is_narrow k
returns_nothing (action.Int k) n = false
returns_nothing (action.Bool b) n = false
returns_nothing action.Nil n = false
returns_nothing action.Copy n = false
returns_nothing (action.Binary op) n = false
returns_nothing action.Neg n = false
returns_nothing action.Not n = false
returns_nothing action.IsNil n = false
returns_nothing action.Len n = false
returns_nothing (action.Load k) n = false
returns_nothing action.At n = false
returns_nothing (action.New k) n = false
returns_nothing action.Slice n = false
returns_nothing action.Chan n = false
returns_nothing action.Recv n = false
returns_nothing (action.Get k) n = false

-- ---- terms

abbrev pub how_many : Terms → ℕ
how_many tree.no_terms = 0
how_many (tree.a_term t ts) = how_many ts + 1

abbrev mutual
  pub term_fits : Term → Bool
  term_fits (tree.Local n) = true
  term_fits (tree.Apply action parts ty place) = terms_fit parts && returns_value action (how_many parts)
  term_fits (tree.Logic logic left right place) = term_fits left && term_fits right
  -- an object has as many fields as values
  term_fits (tree.Build n parts fields place) =
      terms_fit parts && (is_narrow n && (nat_eq (length fields) (how_many parts) && list_all is_narrow fields))
  term_fits (tree.Call n arguments ty place) = terms_fit arguments && is_narrow n

  pub terms_fit : Terms → Bool
  terms_fit tree.no_terms = true
  terms_fit (tree.a_term t ts) = term_fits t && terms_fit ts

abbrev pub value_fits : Option Term → Bool
value_fits None = true
value_fits (Some t) = term_fits t

-- ---- statements

-- what is written is one operand more
abbrev pub change_fits : Change → Bool
change_fits c =
    terms_fit c.operands && (returns_value c.read (how_many c.operands)
    && (term_fits c.value && (is_strict c.op && returns_nothing c.write (how_many c.operands + 1))))

abbrev mutual
  -- in a function with this many local variables, in a loop or not
  pub stmt_fits : (locals : ℕ) → (in_loop : Bool) → Stmt → Bool
  stmt_fits locals in_loop (tree.Block all) = stmts_fit locals in_loop all
  stmt_fits locals in_loop (tree.Declare n ty value place) = term_fits value && nat_lt n locals
  stmt_fits locals in_loop (tree.Zero n ty place) = nat_lt n locals
  stmt_fits locals in_loop (tree.Assign n value place) = term_fits value
  stmt_fits locals in_loop (tree.Perform action operands place) =
      terms_fit operands && returns_nothing action (how_many operands)
  stmt_fits locals in_loop (tree.Update change) = change_fits change
  stmt_fits locals in_loop (tree.Discard value) = term_fits value
  stmt_fits locals in_loop (tree.Invoke n arguments place) = terms_fit arguments && is_narrow n
  stmt_fits locals in_loop (tree.Go n arguments place) = terms_fit arguments && is_narrow n
  stmt_fits locals in_loop (tree.Print pieces values place) = terms_fit values
  stmt_fits locals in_loop (tree.If test body place) = term_fits test && stmts_fit locals in_loop body
  stmt_fits locals in_loop (tree.IfElse test body other place) =
      term_fits test && (stmts_fit locals in_loop body && stmts_fit locals in_loop other)
  stmt_fits locals in_loop (tree.Loop test body post place) =
      value_fits test && (stmts_fit locals true body && stmts_fit locals in_loop post)
  stmt_fits locals in_loop (tree.Break place) = in_loop
  stmt_fits locals in_loop (tree.Continue place) = in_loop
  stmt_fits locals in_loop (tree.Return value place) = value_fits value

  pub stmts_fit : (locals : ℕ) → (in_loop : Bool) → Stmts → Bool
  stmts_fit locals in_loop tree.no_stmts = true
  stmts_fit locals in_loop (tree.a_stmt s all) = stmt_fits locals in_loop s && stmts_fit locals in_loop all
