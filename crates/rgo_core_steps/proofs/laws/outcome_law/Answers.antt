use Rattle.rgo_core_steps.proofs.tables.Outcomes.{outcome_law as is}
use Rattle.rgo_core_steps.proofs.laws.outcome_law.Goals as goal

pub returns : goal.returns
returns c = is
