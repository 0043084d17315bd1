use Rattle.rgo_table_runs.proofs.claims.Examples.{claim_examples}
use Rattle.rgo_table_runs.proofs.closing.Examples.{closing_examples}
use Rattle.rgo_table_runs.proofs.passing.Examples.{passing_examples}
use Rattle.rgo_table_runs.proofs.laws.examples.Goals as goal

pub returns-clause-claims : goal.returns-clause-claims
returns-clause-claims c = claim_examples

pub returns-clause-closing : goal.returns-clause-closing
returns-clause-closing c = closing_examples

pub returns-clause-passing : goal.returns-clause-passing
returns-clause-passing c = passing_examples
