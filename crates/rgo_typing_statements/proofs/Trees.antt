-- The lemmas on trees that a file about statements needs. Those of rgo_ast and rgo_typed are for all trees at once, and
-- cost more time.
use Rattle.rgo_ast.specs.declared.statements.Stmt as code_source
use Rattle.rgo_ast.proofs.Rows.{stmts_are as sources_are, clause_is}
use Rattle.rgo_typed.specs.declared.statements.Stmt as code_stmt
use Rattle.rgo_typed.proofs.Rows.{stmts_are}

-- syntax trees
pub ruleset sources = (sources_are, clause_is, code_source.the_lemmas)

-- typed trees
pub ruleset stmts = (stmts_are, code_stmt.the_lemmas)
