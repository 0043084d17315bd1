use Rattle.rgo_table_runs.proofs.closing.Gathering.{family_is_all, gathered_are_given, shares_are_all}
use Rattle.rgo_table_runs.proofs.laws.gathering_laws.Goals as goal

pub returns-clause-rows : goal.returns-clause-rows
returns-clause-rows c = family_is_all

pub returns-clause-shares : goal.returns-clause-shares
returns-clause-shares c = shares_are_all

pub returns-clause-prints : goal.returns-clause-prints
returns-clause-prints c = gathered_are_given
