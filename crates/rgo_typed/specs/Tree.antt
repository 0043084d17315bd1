-- The typed trees as plain data: what contracts see of them, without the pointers of the code's own.
use Rattle.std.specs.Prelude.{ℕ, List, [], ◌∷◌, Option}
use Rattle.rgo_ast.specs.declared.ops.BinaryOp.{BinaryOp}
use Rattle.rgo_typed.specs.declared.actions.Action.{Action}
use Rattle.rgo_typed.specs.declared.actions.Logical.{Logical}
use Rattle.rgo_typed.specs.declared.types.Type.{«Type»}
use Rattle.rgo_typed.specs.declared.statements.Piece.{Piece}
use Rattle.rgo_typed.specs.declared.programs.Struct.{Struct}
use Rattle.rgo_typed.specs.declared.programs.Variable.{Variable}

mutual
  -- a local variable; an action with its parts and the type of its value; `&&` or `||`; an object
  -- of a struct with its elements and the field of each; a call with the type of its result
  pub data Term : Type 0 where
    Local : ℕ → Term
    Apply : Action → Terms → «Type» → ℕ → Term
    Logic : Logical → Term → Term → ℕ → Term
    Build : ℕ → Terms → List ℕ → ℕ → Term
    Call : ℕ → Terms → «Type» → ℕ → Term

  -- a list of terms
  pub data Terms : Type 0 where
    no_terms : Terms
    a_term : Term → Terms → Terms

abbrev pub terms_of : List Term → Terms
terms_of [] = no_terms
terms_of (t ∷ l) = a_term t (terms_of l)

-- an assignment that computes first: the operands of what is assigned, its read, its type and the
-- read's place, the operator, the value, the write, and the place of the operator and the write
pub record Change : Type 0 where
  pub operands : Terms
  pub read : Action
  pub ty : «Type»
  pub read_at : ℕ
  pub op : BinaryOp
  pub value : Term
  pub write : Action
  pub at : ℕ

mutual
  -- A last number is the place. The first number of a declaration or an assignment is that of the local variable, the first of Invoke
  -- and Go that of the function. Invoke calls a function without result; Discard evaluates a term and drops its value
  pub data Stmt : Type 0 where
    Block : Stmts → Stmt
    Declare : ℕ → «Type» → Term → ℕ → Stmt
    Zero : ℕ → «Type» → ℕ → Stmt
    Assign : ℕ → Term → ℕ → Stmt
    Perform : Action → Terms → ℕ → Stmt
    Update : Change → Stmt
    Discard : Term → Stmt
    Invoke : ℕ → Terms → ℕ → Stmt
    Go : ℕ → Terms → ℕ → Stmt
    Print : List Piece → Terms → ℕ → Stmt
    If : Term → Stmts → ℕ → Stmt
    IfElse : Term → Stmts → Stmts → ℕ → Stmt
    -- the condition, the body, the post statement
    Loop : Option Term → Stmts → Stmts → ℕ → Stmt
    Break : ℕ → Stmt
    Continue : ℕ → Stmt
    Return : Option Term → ℕ → Stmt

  -- a list of statements
  pub data Stmts : Type 0 where
    no_stmts : Stmts
    a_stmt : Stmt → Stmts → Stmts

-- a list as data of the trees' cycle
abbrev pub stmts_of : List Stmt → Stmts
stmts_of [] = no_stmts
stmts_of (s ∷ l) = a_stmt s (stmts_of l)

-- `params` of the local variables are parameters; `end` is the place of the closing brace
pub record Function : Type 0 where
  pub name : List ℕ
  pub params : ℕ
  pub locals : List «Type»
  pub result_type : Option «Type»
  pub body : List Stmt
  pub end : ℕ

-- each kind numbered from 0 in the order of the text
pub record Typed : Type 0 where
  pub structs : List Struct
  pub variables : List Variable
  pub functions : List Function
