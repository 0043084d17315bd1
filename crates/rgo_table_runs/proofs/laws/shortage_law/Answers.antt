use Rattle.rgo_table_runs.proofs.passing.Passed.{finds_shortage}
use Rattle.rgo_table_runs.proofs.laws.shortage_law.Goals as goal

pub returns : goal.returns
returns c = finds_shortage
