use Rattle.rgo_core_steps.proofs.tables.Parting.{started_law as is}
use Rattle.rgo_core_steps.proofs.laws.started_law.Goals as goal

pub returns : goal.returns
returns c = is
