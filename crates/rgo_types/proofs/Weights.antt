-- The size of a statement: the measure by which its check ends. Each function of the cycle has the size of its parts and a small number
-- beside it, which is less for a function that is called with the same parts.
use Rattle.std.proofs.Common.{◌≡◌, ℕ, zero, suc, ◌+◌, ◌<◌, List, [], ◌∷◌, length, map, get_or, arith, subst, sym}
use Rattle.rgo_ast.specs.Tree as tree
use Rattle.rgo_ast.specs.Tree.{Stmt, Stmts, Clause, stmts_of}
use Rattle.rgo_ast.specs.Views.{stmt_of}
use Rattle.rgo_ast.specs.declared.statements.Stmt.{Stmt as CodeStmt}

abbrev mutual
  pub weight : Stmt → ℕ
  weight (tree.Block all at) = suc (suc (suc (weights all)))
  weight (tree.If init test body other at) =
      suc (suc (suc (suc (clause_weight init + (weights body + clause_weight other)))))
  weight (tree.For init test post body at) =
      suc (suc (suc (suc (clause_weight init + (clause_weight post + weights body)))))
  weight _ = 0

  pub weights : Stmts → ℕ
  weights tree.no_stmts = 0
  weights (tree.a_stmt s l) = suc (weight s + weights l)

  pub clause_weight : Clause → ℕ
  clause_weight tree.no_clause = 0
  clause_weight (tree.a_clause s) = suc (weight s)

pub lighter : (l : List CodeStmt) (i : ℕ) (s : CodeStmt) → s ≡ get_or l i s → i < length l → weight (stmt_of s) < weights (stmts_of (map stmt_of l))
lighter [] i s p h = absurd (omega arith)
lighter (a ∷ l) zero s p h =
    subst (λ t. weight (stmt_of t) < suc (weight (stmt_of a) + weights (stmts_of (map stmt_of l)))) (sym p) (omega arith)
lighter (a ∷ l) (suc i) s p h = let here = lighter l i s p (omega arith) in omega arith
