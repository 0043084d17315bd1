-- The size of a statement: the measure by which its lowering ends. Each item of a list is lighter than the list (`lighter`).
use Rattle.std.proofs.Common.{◌≡◌, ℕ, zero, suc, ◌+◌, ◌<◌, List, [], ◌∷◌, length, map, get_or, arith, subst, sym}
use Rattle.rgo_typed.specs.Tree as tree
use Rattle.rgo_typed.specs.Tree.{Stmt, Stmts, stmts_of}
use Rattle.rgo_typed.specs.Views.{stmt_of}
use Rattle.rgo_typed.specs.declared.statements.Stmt.{Stmt as CodeStmt}

abbrev mutual
  pub weight : Stmt → ℕ
  weight (tree.Block all) = suc (weights all)
  weight (tree.If test body place) = suc (suc (weights body))
  weight (tree.IfElse test body other place) = suc (suc (weights body + weights other))
  weight (tree.Loop test body post place) = suc (suc (weights body + weights post))
  weight _ = 0

  pub weights : Stmts → ℕ
  weights tree.no_stmts = 0
  weights (tree.a_stmt s l) = suc (weight s + weights l)

pub lighter : (l : List CodeStmt) (i : ℕ) (s : CodeStmt) → s ≡ get_or l i s → i < length l
    → weight (stmt_of s) < weights (stmts_of (map stmt_of l))
lighter [] i s p h = absurd (omega arith)
lighter (a ∷ l) zero s p h =
    subst (λ t. weight (stmt_of t) < suc (weight (stmt_of a) + weights (stmts_of (map stmt_of l)))) (sym p)
    (omega arith)
lighter (a ∷ l) (suc i) s p h = let here = lighter l i s p (omega arith) in omega arith
