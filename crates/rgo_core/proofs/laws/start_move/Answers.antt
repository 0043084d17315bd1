use Rattle.rgo_core.proofs.goroutines.Starting.{start_move as is}
use Rattle.rgo_core.proofs.laws.start_move.Goals as goal

pub returns : goal.returns
returns c = is
