use Rattle.rgo_core.proofs.clock.Ending.{calls_move as is}
use Rattle.rgo_core.proofs.laws.calls_move.Goals as goal

pub returns : goal.returns
returns c = is
