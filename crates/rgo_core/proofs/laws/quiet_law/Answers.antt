use Rattle.rgo_core.proofs.steps.Lift.{quiet_law as is}
use Rattle.rgo_core.proofs.laws.quiet_law.Goals as goal

pub returns : goal.returns
returns c = is
