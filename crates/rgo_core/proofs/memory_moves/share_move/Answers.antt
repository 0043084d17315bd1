use Rattle.rgo_core.proofs.regions.Regions.{share_move}
use Rattle.rgo_core.proofs.memory_moves.share_move.Goals as goal

pub returns : goal.returns
returns c = share_move
