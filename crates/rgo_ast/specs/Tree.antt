-- The surface trees as plain data: what contracts see of them, without the pointers of the code's own. Lists inside the cycles are
-- data of their own, so that functions on them are by recursion on the tree.
use Rattle.std.specs.Prelude.{ℕ, List, [], ◌∷◌, Option, Some, None}
use Rattle.rgo_ast.specs.declared.ops.UnaryOp.{UnaryOp}
use Rattle.rgo_ast.specs.declared.ops.BinaryOp.{BinaryOp}
use Rattle.rgo_ast.specs.declared.ops.AssignOp.{AssignOp}
use Rattle.rgo_ast.specs.declared.ops.StepOp.{StepOp}
use Rattle.rgo_ast.specs.declared.names.Ident.{Ident}
use Rattle.rgo_ast.specs.declared.names.ImportPath.{ImportPath}

-- each with its place: that of its name, of `*`, of `[`, of `chan`
pub data TypeExpr : Type 0 where
  Named : Ident → TypeExpr
  Pointer : Ident → ℕ → TypeExpr
  Slice : TypeExpr → ℕ → TypeExpr
  Chan : TypeExpr → ℕ → TypeExpr

-- names declared with one type: fields, parameters, variables
pub record Binding : Type 0 where
  pub names : List Ident
  pub ty : TypeExpr

mutual
  -- A place that is not a name's is that of the operator of a binary operation, of the `(` of a call,
  -- of the `[` of an index, and else that of the first token.
  pub data Expr : Type 0 where
    Number : ℕ → ℕ → Expr
    Text : List ℕ → ℕ → Expr
    Name : Ident → Expr
    Paren : Expr → ℕ → Expr
    New : Ident → ℕ → Expr
    MakeSlice : TypeExpr → Expr → ℕ → Expr
    MakeChan : TypeExpr → Capacity → ℕ → Expr
    Select : Expr → Ident → Expr
    Index : Expr → Expr → ℕ → Expr
    Called : Expr → Exprs → ℕ → Expr
    Unary : UnaryOp → Expr → ℕ → Expr
    Binary : BinaryOp → Expr → Expr → ℕ → Expr
    Literal : Ident → Exprs → ℕ → Expr
    Keyed : Ident → Elements → ℕ → Expr

  -- a list of expressions: arguments, or the values of a literal without field names
  pub data Exprs : Type 0 where
    no_exprs : Exprs
    an_expr : Expr → Exprs → Exprs

  -- the elements of a literal, each with its field
  pub data Elements : Type 0 where
    no_elements : Elements
    an_element : Ident → Expr → Elements → Elements

  -- of a channel
  pub data Capacity : Type 0 where
    no_capacity : Capacity
    a_capacity : Expr → Capacity

-- a list as data of the trees' cycle
abbrev pub exprs_of : List Expr → Exprs
exprs_of [] = no_exprs
exprs_of (e ∷ l) = an_expr e (exprs_of l)

-- the same of elements, each a field's name and a value
abbrev pub elements_of : List (Ident × Expr) → Elements
elements_of [] = no_elements
elements_of (e ∷ l) = an_element e.0 e.1 (elements_of l)

abbrev pub capacity_of : Option Expr → Capacity
capacity_of None = no_capacity
capacity_of (Some e) = a_capacity e

-- a declaration of local variables: their zero values, or one value with a type or without, at its `=`
pub data LocalVar : Type 0 where
  Zero : Binding → LocalVar
  Typed : Ident → TypeExpr → Expr → ℕ → LocalVar
  Inferred : Ident → Expr → ℕ → LocalVar

mutual
  -- A place is that of the operator, and else that of the first token.
  pub data Stmt : Type 0 where
    Block : Stmts → ℕ → Stmt
    Plain : Expr → Stmt
    Send : Expr → Expr → ℕ → Stmt
    Step : StepOp → Expr → ℕ → Stmt
    Assign : AssignOp → Expr → Expr → ℕ → Stmt
    Define : Ident → Expr → ℕ → Stmt
    If : Clause → Expr → Stmts → Clause → ℕ → Stmt
    For : Clause → Option Expr → Clause → Stmts → ℕ → Stmt
    Go : Ident → Exprs → ℕ → Stmt
    Var : List LocalVar → ℕ → Stmt
    Return : Option Expr → ℕ → Stmt
    Break : ℕ → Stmt
    Continue : ℕ → Stmt

  -- a list of statements
  pub data Stmts : Type 0 where
    no_stmts : Stmts
    a_stmt : Stmt → Stmts → Stmts

  -- a statement that may be left out: before the condition, after it, or after `else`
  pub data Clause : Type 0 where
    no_clause : Clause
    a_clause : Stmt → Clause

-- the same of statements
abbrev pub stmts_of : List Stmt → Stmts
stmts_of [] = no_stmts
stmts_of (s ∷ l) = a_stmt s (stmts_of l)

-- the same of a statement that may be left out
abbrev pub clause_of : Option Stmt → Clause
clause_of None = no_clause
clause_of (Some s) = a_clause s

-- a struct
pub record TypeSpec : Type 0 where
  pub name : Ident
  pub fields : List Binding

-- `at` is the place of `func`, `end` that of the closing brace
pub record Function : Type 0 where
  pub name : Ident
  pub params : List Binding
  pub result_type : Option TypeExpr
  pub body : List Stmt
  pub at : ℕ
  pub end : ℕ

-- at the keyword
pub data Decl : Type 0 where
  Types : List TypeSpec → ℕ → Decl
  Vars : List Binding → ℕ → Decl
  Func : Function → Decl

-- an import declaration, at its keyword
pub record Import : Type 0 where
  pub paths : List ImportPath
  pub at : ℕ

-- `end` is the length of the text
pub record Program : Type 0 where
  pub imports : List Import
  pub decls : List Decl
  pub end : ℕ
