use Rattle.rgo_core_steps.proofs.tables.Outcomes.{family_law as is}
use Rattle.rgo_core_steps.proofs.laws.family_law.Goals as goal

pub returns : goal.returns
returns c = is
