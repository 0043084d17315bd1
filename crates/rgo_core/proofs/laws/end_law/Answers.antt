use Rattle.rgo_core.proofs.clock.ClockLifts.{end_law as is}
use Rattle.rgo_core.proofs.laws.end_law.Goals as goal

pub returns : goal.returns
returns c = is
