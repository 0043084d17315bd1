use Rattle.rgo_table_runs.proofs.passing.Passed.{finds_deadlock}
use Rattle.rgo_table_runs.proofs.laws.deadlock_law.Goals as goal

pub returns : goal.returns
returns c = finds_deadlock
