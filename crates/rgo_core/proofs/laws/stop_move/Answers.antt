use Rattle.rgo_core.proofs.clock.Ending.{stop_move as is}
use Rattle.rgo_core.proofs.laws.stop_move.Goals as goal

pub returns : goal.returns
returns c = is
