use Rattle.rgo_core.proofs.clock.ClockLifts.{ticket_law as is}
use Rattle.rgo_core.proofs.laws.ticket_law.Goals as goal

pub returns : goal.returns
returns c = is
