-- Well-formed typed trees: every name is declared and in scope, and every value has the type that its context requires. A term carries
-- its type, so this is a check and not an inference: one pass over the tree, by recursion.
use Rattle.std.specs.Prelude.{◌≡◌, ℕ, zero, suc, ◌≤◌, Bool, true, false, List, [], ◌∷◌, ◌++◌, length, map, take}
use Rattle.std.specs.Prelude.{codes, bytes_eq}
use Rattle.std.specs.Prelude.{Option, Some, None, slice_get, ⊤, nat_eq}
use Rattle.std.specs.List.{AllByRecursion, IsDistinct, list_any}
use Rattle.rgo_typed.specs.declared.statements.Piece.{Piece}
use Rattle.rgo_typed.specs.declared.statements.Piece.TheVariants as piece
use Rattle.rgo_typed.specs.declared.types.Type.{«Type»}
use Rattle.rgo_typed.specs.Tree.{Term, Terms, Change, Stmt, Stmts, stmts_of, Function, Typed}
use Rattle.rgo_typed.specs.Tree as tree
use Rattle.rgo_typed.specs.Types.{is_pointer_like}
use Rattle.rgo_wellformed.specs.TypeRules.{bool, pointer_to, Signature, Declared, IsType, Returns, Takes, Computes}

-- the numbers of the local variables in scope, the newest first
abbrev pub InScope : Type 0
InScope = List ℕ

abbrev pub is_in_scope : InScope → ℕ → Bool
is_in_scope g n = list_any (λ m. nat_eq m n) g

-- ---- terms

-- Each element of a struct literal has the type of its field: the types of all fields, the field of each element, the
-- types of the elements.
abbrev pub MatchFields : List «Type» → List ℕ → List «Type» → Type 0
MatchFields fields [] types = types ≡ []
MatchFields fields (k ∷ numbers) types =
    (t : «Type») × (rest : List «Type») × (types ≡ t ∷ rest) × (slice_get fields k ≡ Some t)
    × MatchFields fields numbers rest

-- `locals` are the types of the function's local variables by number, `g` the variables in scope
module _ (d : Declared) (locals : List «Type») where
  abbrev mutual
    -- a term has type t
    pub HasType : InScope → Term → «Type» → Type 0
    HasType g (tree.Local n) t = (is_in_scope g n ≡ true) × (slice_get locals n ≡ Some t)
    HasType g (tree.Apply action parts u at) t =
        (u ≡ t) × IsType d u × (operands : List «Type») × HaveTypes g parts operands × Returns d action operands u
    HasType g (tree.Logic op a b at) t = (t ≡ bool) × HasType g a bool × HasType g b bool
    HasType g (tree.Build n parts numbers at) t =
        (t ≡ pointer_to n) × (fields : List «Type») × (slice_get d.structs n ≡ Some fields)
        × (types : List «Type») × HaveTypes g parts types × MatchFields fields numbers types
    HasType g (tree.Call n arguments u at) t =
        (u ≡ t) × (s : Signature) × (slice_get d.functions n ≡ Some s)
        × HaveTypes g arguments s.params × (s.result_type ≡ Some u)

    -- terms have these types, one each
    pub HaveTypes : InScope → Terms → List «Type» → Type 0
    HaveTypes g tree.no_terms types = types ≡ []
    HaveTypes g (tree.a_term t terms) types =
        (u : «Type») × (rest : List «Type») × (types ≡ u ∷ rest) × HasType g t u × HaveTypes g terms rest

-- ---- statements

-- the environment of a statement: what the program declares, the types of the function's local variables, its result,
-- and whether a loop encloses the statement
pub record Environment : Type 0 where
  pub declared : Declared
  pub locals : List «Type»
  pub result_type : Option «Type»
  pub in_loop : Bool

abbrev pub in_a_loop : Environment → Environment
in_a_loop e = record { declared = e.declared; locals = e.locals; result_type = e.result_type; in_loop = true }

abbrev pub Has : Environment → InScope → Term → «Type» → Type 0
Has e g t ty = HasType e.declared e.locals g t ty

abbrev pub Have : Environment → InScope → Terms → List «Type» → Type 0
Have e g terms types = HaveTypes e.declared e.locals g terms types

-- A declaration of local variable n, whose number is not in scope yet: so a declaration never changes a variable that is in use. After
-- its block the number is out of scope, so a loop may declare it again.
abbrev pub Declares : Environment → InScope → ℕ → «Type» → Type 0
Declares e g n t = (is_in_scope g n ≡ false) × (slice_get e.locals n ≡ Some t)

-- a call of a function without result
abbrev pub Invokes : Environment → InScope → ℕ → Terms → Type 0
Invokes e g n arguments =
    (s : Signature) × (slice_get e.declared.functions n ≡ Some s) × Have e g arguments s.params × (s.result_type ≡ None)

-- an assignment with an operator, such as `+=`: the operands of the left side, its read, the computation, its write
abbrev pub Updates : Environment → InScope → Change → Type 0
Updates e g u =
    (operands : List «Type») × Have e g u.operands operands × IsType e.declared u.ty
    × Returns e.declared u.read operands u.ty × Has e g u.value u.ty × Computes u.op (u.ty ∷ u.ty ∷ []) u.ty
    × Takes e.declared u.write (operands ++ u.ty ∷ [])

-- an int or a bool
abbrev pub IsPrinted : «Type» → Type 0
IsPrinted t = is_pointer_like t ≡ false

-- each piece of a print that is a value has one operand, in order
abbrev pub MatchPieces : List Piece → List «Type» → Type 0
MatchPieces [] types = types ≡ []
MatchPieces (piece.Text bytes ∷ pieces) types = MatchPieces pieces types
MatchPieces (piece.Value ∷ pieces) types =
    (t : «Type») × (rest : List «Type») × (types ≡ t ∷ rest) × IsPrinted t × MatchPieces pieces rest

abbrev pub IsCondition : Environment → InScope → Option Term → Type 0
IsCondition e g None = ⊤
IsCondition e g (Some t) = Has e g t bool

-- the value of a `return` has the type of the function's result
abbrev pub IsReturned : Environment → InScope → Option Term → Type 0
IsReturned e g None = e.result_type ≡ None
IsReturned e g (Some t) = (ty : «Type») × (e.result_type ≡ Some ty) × Has e g t ty

-- the variables in scope after a statement
abbrev pub scope_after : InScope → Stmt → InScope
scope_after g (tree.Declare n ty t at) = n ∷ g
scope_after g (tree.Zero n ty at) = n ∷ g
scope_after g _ = g

abbrev mutual
  pub IsStmt : Environment → InScope → Stmt → Type 0
  IsStmt e g (tree.Block all) = AreStmts e g all
  IsStmt e g (tree.Declare n ty t at) = Declares e g n ty × Has e g t ty
  IsStmt e g (tree.Zero n ty at) = Declares e g n ty
  IsStmt e g (tree.Assign n t at) =
      (ty : «Type») × (is_in_scope g n ≡ true) × (slice_get e.locals n ≡ Some ty) × Has e g t ty
  IsStmt e g (tree.Perform action parts at) =
      (operands : List «Type») × Have e g parts operands × Takes e.declared action operands
  IsStmt e g (tree.Update u) = Updates e g u
  IsStmt e g (tree.Discard t) = (ty : «Type») × Has e g t ty
  IsStmt e g (tree.Invoke n arguments at) = Invokes e g n arguments
  IsStmt e g (tree.Go n arguments at) = Invokes e g n arguments
  IsStmt e g (tree.Print pieces values at) = (types : List «Type») × Have e g values types × MatchPieces pieces types
  IsStmt e g (tree.If test body at) = Has e g test bool × AreStmts e g body
  IsStmt e g (tree.IfElse test body other at) = Has e g test bool × AreStmts e g body × AreStmts e g other
  IsStmt e g (tree.Loop test body post at) =
      IsCondition e g test × AreStmts (in_a_loop e) g body × AreStmts e g post
  IsStmt e g (tree.Break at) = e.in_loop ≡ true
  IsStmt e g (tree.Continue at) = e.in_loop ≡ true
  IsStmt e g (tree.Return value at) = IsReturned e g value

  -- each in the scope after those before it
  pub AreStmts : Environment → InScope → Stmts → Type 0
  AreStmts e g tree.no_stmts = ⊤
  AreStmts e g (tree.a_stmt s all) = IsStmt e g s × AreStmts e (scope_after g s) all

-- ---- programs

abbrev pub signature_of : Function → Signature
signature_of f = record { params = take f.params f.locals; result_type = f.result_type }

abbrev pub declared_by : Typed → Declared
declared_by p = record {
  structs = map (λ s. s.fields) p.structs;
  variables = map (λ v. v.ty) p.variables;
  functions = map signature_of p.functions;
}

abbrev pub IsResult : Declared → Option «Type» → Type 0
IsResult d None = ⊤
IsResult d (Some t) = IsType d t

-- 0 to n - 1
abbrev pub first_numbers : ℕ → InScope
first_numbers zero = []
first_numbers (suc n) = first_numbers n ++ n ∷ []

-- The parameters are the first local variables, and in scope in the whole body. All local variables of the body are in the list, also
-- those of inner blocks.
pub record IsFunction (d : Declared) (f : Function) : Type 0 where
  pub params : f.params ≤ length f.locals
  pub locals : AllByRecursion (IsType d) f.locals
  pub result_type : IsResult d f.result_type
  pub body :
      AreStmts (record { declared = d; locals = f.locals; result_type = f.result_type; in_loop = false })
      (first_numbers f.params) (stmts_of f.body)

abbrev pub AreDistinct : List (List ℕ) → Type 0
AreDistinct names = IsDistinct bytes_eq names

-- a function `main` without parameters and result
pub record IsMain (f : Function) : Type 0 where
  pub name : f.name ≡ codes "main"
  pub params : f.params ≡ 0
  pub result_type : f.result_type ≡ None

pub record IsWellFormed (p : Typed) : Type 0 where
  pub structs : AllByRecursion (λ s. AllByRecursion (IsType (declared_by p)) s.fields) p.structs
  pub variables : AllByRecursion (λ v. IsType (declared_by p) v.ty) p.variables
  pub functions : AllByRecursion (IsFunction (declared_by p)) p.functions
  pub struct_names : AreDistinct (map (λ s. s.name) p.structs)
  pub variable_names : AreDistinct (map (λ v. v.name) p.variables)
  pub function_names : AreDistinct (map (λ f. f.name) p.functions)
  pub has_main : (n : ℕ) × (main : Function) × (slice_get p.functions n ≡ Some main) × IsMain main
