-- The last of some statements: the code takes it by its index, and the definition walks to it.
use Rattle.std.proofs.Common.{◌≡◌, suc, ◌-◌, List, [], ◌∷◌, length, map, slice_get, Some, ap, subst, arith}
use Rattle.rgo_ast.specs.Tree.{stmts_of}
use Rattle.rgo_ast.specs.Views.{stmt_of}
use Rattle.rgo_ast.specs.declared.statements.Stmt.{Stmt as CodeStmt}
use Rattle.rgo_types.specs.Flow.{stmts_terminate, stmt_terminates}

unwrapped : {A : Type 0} (a b : A) → Some a ≡ Some b → a ≡ b
unwrapped a b p = cc

pub ends_last : (l : List CodeStmt) (s : CodeStmt) → slice_get l (length l - 1) ≡ Some s → stmts_terminate (stmts_of (map stmt_of l)) ≡ stmt_terminates (stmt_of s)
ends_last [] s p = cc
ends_last (a ∷ []) s p = ap (λ t. stmt_terminates (stmt_of t)) (unwrapped a s p)
ends_last (a ∷ b ∷ l) s p =
    let n : length (a ∷ b ∷ l) - 1 ≡ suc (length (b ∷ l) - 1) = omega arith in
    ends_last (b ∷ l) s (subst (λ k. slice_get (a ∷ b ∷ l) k ≡ Some s) n p)
