use Rattle.rgo_core.proofs.steps.Lift.{access_law as is}
use Rattle.rgo_core.proofs.laws.access_law.Goals as goal

pub returns : goal.returns
returns c = is
