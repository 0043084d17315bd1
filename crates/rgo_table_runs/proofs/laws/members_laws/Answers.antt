use Rattle.rgo_table_runs.proofs.closing.Members.{all_retired, kept_by_adopting, kept_by_gathering, kept_by_order, kept_by_turn}
use Rattle.rgo_table_runs.proofs.laws.members_laws.Goals as goal

pub returns-clause-order : goal.returns-clause-order
returns-clause-order c = kept_by_order

pub returns-clause-turn : goal.returns-clause-turn
returns-clause-turn c = kept_by_turn

pub returns-clause-gathering : goal.returns-clause-gathering
returns-clause-gathering c = kept_by_gathering

pub returns-clause-adopting : goal.returns-clause-adopting
returns-clause-adopting c = kept_by_adopting

pub returns-clause-close : goal.returns-clause-close
returns-clause-close c = all_retired
