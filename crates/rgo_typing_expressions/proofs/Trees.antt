-- The lemmas on trees that a file about expressions needs. Those on statements, which the rulesets of rgo_ast and
-- rgo_typed have as well, would only cost time here.
use Rattle.rgo_ast.specs.declared.types.TypeExpr as code_type_expr
use Rattle.rgo_ast.specs.declared.expressions.Expr as code_expr
use Rattle.rgo_ast.proofs.Rows.{exprs_are, elements_are, capacity_is}
use Rattle.rgo_typed.specs.declared.terms.Term as code_term
use Rattle.rgo_typed.proofs.Rows.{terms_are}

-- syntax trees
pub ruleset exprs = (exprs_are, elements_are, capacity_is, code_type_expr.the_lemmas, code_expr.the_lemmas)

-- typed trees
pub ruleset terms = (terms_are, code_term.the_lemmas)
