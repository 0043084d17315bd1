-- A Vec of trees inside a tree as the list of its items, and a boxed part as what it may hold.
-- A file of code that builds or walks trees begins with
--   #![tactic(auto, using(rgo_ast::proofs::Rows::rows))]
-- and then proves what the views of its trees are by itself.
use Rattle.std.proofs.Common.{◌≡◌, map, Option, Some, None, refl, ap}
use Rattle.std.specs.declared.boxed.Box.{Box}
use Rattle.std.specs.declared.alloc.Global.{Global}
use Rattle.rgo_ast.specs.declared.types.TypeExpr as code_type_expr
use Rattle.rgo_ast.specs.declared.expressions.Expr as code
use Rattle.rgo_ast.specs.declared.statements.Stmt as code_stmt
use Rattle.rgo_ast.specs.Tree.{an_expr, exprs_of, an_element, elements_of, capacity_of, a_stmt, stmts_of, clause_of}
use Rattle.rgo_ast.specs.Views.{expr_of, exprs_in, element_of, elements_in, capacity_in, boxed_expr_of}
use Rattle.rgo_ast.specs.Views.{stmt_of, stmts_in, clause_in, boxed_stmt_of}

pub exprs_are : (n : _) (row : code.Row_of-Expr n) →
    exprs_in row ≡ exprs_of (map expr_of (code.items-the_row-Expr n row))
exprs_are _ code.end_of-Expr = refl
exprs_are _ (code.more_of-Expr e rest) = ap (an_expr (expr_of e)) (exprs_are _ rest)

pub elements_are : (n : _) (row : code.Row_of-Element n) →
    elements_in row ≡ elements_of (map element_of (code.items-the_row-Element n row))
elements_are _ code.end_of-Element = refl
elements_are _ (code.more_of-Element field e rest) = ap (an_element field (expr_of e)) (elements_are _ rest)

pub stmts_are : (n : _) (row : code_stmt.Row_of-Stmt n) →
    stmts_in row ≡ stmts_of (map stmt_of (code_stmt.items-the_row-Stmt n row))
stmts_are _ code_stmt.end_of-Stmt = refl
stmts_are _ (code_stmt.more_of-Stmt s rest) = ap (a_stmt (stmt_of s)) (stmts_are _ rest)

pub capacity_is : (e : Option (Box code.Expr Global)) →
    capacity_in (code.back-Expr-MakeChan-1 e) ≡ capacity_of (boxed_expr_of e)
capacity_is None = refl
capacity_is (Some e) = refl

pub clause_is : (s : Option (Box code_stmt.Stmt Global)) →
    clause_in (code_stmt.back-Stmt-If-0 s) ≡ clause_of (boxed_stmt_of s)
clause_is None = refl
clause_is (Some s) = refl

pub ruleset nodes = (code_type_expr.the_lemmas, code.the_lemmas, code_stmt.the_lemmas)

pub ruleset rows = (exprs_are, elements_are, stmts_are, capacity_is, clause_is, nodes)
