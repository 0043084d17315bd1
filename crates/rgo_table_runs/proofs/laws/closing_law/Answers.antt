use Rattle.rgo_table_runs.proofs.closing.Closed.{closed_claims, closed_runs}
use Rattle.rgo_table_runs.proofs.laws.closing_law.Goals as goal

pub returns-clause-runs : goal.returns-clause-runs
returns-clause-runs c = closed_runs

pub returns-clause-claims : goal.returns-clause-claims
returns-clause-claims c = closed_claims
