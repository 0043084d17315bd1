use Rattle.rgo_core.proofs.clock.ClockLifts.{number_law as is}
use Rattle.rgo_core.proofs.laws.number_law.Goals as goal

pub returns : goal.returns
returns c = is
