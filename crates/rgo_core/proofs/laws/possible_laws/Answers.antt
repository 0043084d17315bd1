use Rattle.rgo_core.proofs.runs.Possible as lemmas
use Rattle.rgo_core.proofs.laws.possible_laws.Goals as goal

pub returns-clause-first : goal.returns-clause-first
returns-clause-first c = lemmas.first_possible

pub returns-clause-access : goal.returns-clause-access
returns-clause-access c = lemmas.is_possible

pub returns-clause-still : goal.returns-clause-still
returns-clause-still c = lemmas.still_possible
