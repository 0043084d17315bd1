use Rattle.rgo_table_runs.proofs.closing.Closed.{rows_are_all}
use Rattle.rgo_table_runs.proofs.laws.rows_law.Goals as goal

pub returns : goal.returns
returns c = rows_are_all
