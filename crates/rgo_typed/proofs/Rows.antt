-- A Vec of trees inside a tree as the list of its items.
-- A file of code that builds or walks typed trees begins with
--   #![tactic(auto, using(rgo_typed::proofs::Rows::rows))]
-- and then proves what the views of its trees are by itself.
use Rattle.std.proofs.Common.{◌≡◌, map, refl, ap}
use Rattle.rgo_typed.specs.declared.terms.Term as code
use Rattle.rgo_typed.specs.declared.statements.Stmt as code_stmt
use Rattle.rgo_typed.specs.Tree.{a_term, terms_of, a_stmt, stmts_of}
use Rattle.rgo_typed.specs.Views.{term_of, terms_in, stmt_of, stmts_in}

pub terms_are : (n : _) (row : code.Row_of-Term n) →
    terms_in row ≡ terms_of (map term_of (code.items-the_row-Term n row))
terms_are _ code.end_of-Term = refl
terms_are _ (code.more_of-Term t rest) = ap (a_term (term_of t)) (terms_are _ rest)

pub stmts_are : (n : _) (row : code_stmt.Row_of-Stmt n) →
    stmts_in row ≡ stmts_of (map stmt_of (code_stmt.items-the_row-Stmt n row))
stmts_are _ code_stmt.end_of-Stmt = refl
stmts_are _ (code_stmt.more_of-Stmt s rest) = ap (a_stmt (stmt_of s)) (stmts_are _ rest)

pub ruleset nodes = (code.the_lemmas, code_stmt.the_lemmas)

pub ruleset rows = (terms_are, stmts_are, nodes)
