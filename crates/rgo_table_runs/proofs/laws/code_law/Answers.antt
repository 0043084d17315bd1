use Rattle.rgo_table_runs.proofs.claims.Claimed.{runs_as_code}
use Rattle.rgo_table_runs.proofs.laws.code_law.Goals as goal

pub returns : goal.returns
returns c = runs_as_code
