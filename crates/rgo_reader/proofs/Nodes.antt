-- The trees of the expressions that the code makes.
use Rattle.rgo_ast.specs.declared.expressions.Expr as code
use Rattle.rgo_ast.proofs.Rows.{capacity_is}

pub ruleset nodes = (capacity_is, code.the_lemmas)
