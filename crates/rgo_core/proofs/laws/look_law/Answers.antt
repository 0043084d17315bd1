use Rattle.rgo_core.proofs.clock.ClockLifts.{look_law as is}
use Rattle.rgo_core.proofs.laws.look_law.Goals as goal

pub returns : goal.returns
returns c = is
