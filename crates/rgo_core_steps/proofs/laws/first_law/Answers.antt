use Rattle.rgo_core_steps.proofs.tables.Outcomes.{first_law as is}
use Rattle.rgo_core_steps.proofs.laws.first_law.Goals as goal

pub returns : goal.returns
returns c = is
