use Rattle.rgo_core.proofs.clock.Ending.{full_move as is}
use Rattle.rgo_core.proofs.laws.full_move.Goals as goal

pub returns : goal.returns
returns c = is
