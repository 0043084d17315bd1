use Rattle.rgo_core.proofs.regions.Regions.{create_move}
use Rattle.rgo_core.proofs.memory_moves.create_move.Goals as goal

pub returns : goal.returns
returns c = create_move
