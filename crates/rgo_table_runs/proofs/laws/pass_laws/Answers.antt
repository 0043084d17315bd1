use Rattle.rgo_table_runs.proofs.passing.Turning.{knows_by_look, passes_by_turn, stays_passed}
use Rattle.rgo_table_runs.proofs.laws.pass_laws.Goals as goal

pub returns-clause-look : goal.returns-clause-look
returns-clause-look c = knows_by_look

pub returns-clause-turn : goal.returns-clause-turn
returns-clause-turn c = passes_by_turn

pub returns-clause-stays : goal.returns-clause-stays
returns-clause-stays c = stays_passed
