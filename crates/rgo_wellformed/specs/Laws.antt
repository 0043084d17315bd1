-- Laws of well-formed terms and statements: a term has one type, which exists; lists are well-formed item by item. They are what a proof
-- about a later pass uses in place of the definitions.
use Rattle.std.specs.Prelude.{◌≡◌, ℕ, List, [], ◌∷◌, ◌++◌, length, Some, slice_get}
use Rattle.std.specs.List.{AllByRecursion}
use Rattle.rgo_typed.specs.declared.types.Type.{«Type»}
use Rattle.rgo_typed.specs.Tree.{Term, terms_of, Stmt, stmts_of}
use Rattle.rgo_wellformed.specs.TypeRules.{Declared, IsType}
use Rattle.rgo_wellformed.specs.WellFormed.{InScope, HasType, HaveTypes, IsResult, Environment, AreStmts, scope_after}

abbrev pub OneType : Type 0
OneType =
    (d : Declared) (locals : List «Type») (g : InScope) (t : Term) (a b : «Type»)
    → HasType d locals g t a → HasType d locals g t b → a ≡ b

-- if the structs that the types of local variables and results name exist, so do those that the types of terms name
abbrev pub TypesExist : Type 0
TypesExist =
    (d : Declared) (locals : List «Type») (g : InScope) (t : Term) (a : «Type»)
    → AllByRecursion (IsType d) locals → AllByRecursion (λ s. IsResult d s.result_type) d.functions
    → HasType d locals g t a → IsType d a

-- there are as many terms as types, and the i-th term has the i-th type
abbrev pub TypesByIndex : Type 0
TypesByIndex =
    (d : Declared) (locals : List «Type») (g : InScope) (terms : List Term) (types : List «Type»)
    → HaveTypes d locals g (terms_of terms) types
    → (length terms ≡ length types)
    × ((i : ℕ) (t : Term) → slice_get terms i ≡ Some t
    → (ty : «Type») × (slice_get types i ≡ Some ty) × HasType d locals g t ty)

-- the variables in scope after several statements
abbrev pub scope_after_all : InScope → List Stmt → InScope
scope_after_all g [] = g
scope_after_all g (s ∷ l) = scope_after_all (scope_after g s) l

-- a list of statements is well-formed in two parts
abbrev pub StmtsInParts : Type 0
StmtsInParts =
    (e : Environment) (g : InScope) (l m : List Stmt) → AreStmts e g (stmts_of (l ++ m))
    → AreStmts e g (stmts_of l) × AreStmts e (scope_after_all g l) (stmts_of m)
