-- The lemmas on typed trees that a file about expressions needs. Those on statements, which the ruleset of rgo_typed has
-- as well, would only cost time here.
use Rattle.rgo_typed.specs.declared.terms.Term as code_term
use Rattle.rgo_typed.proofs.Rows.{terms_are}

pub ruleset terms = (terms_are, code_term.the_lemmas)
