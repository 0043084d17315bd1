use Rattle.rgo_core.proofs.accesses.Accesses.{store_move}
use Rattle.rgo_core.proofs.memory_moves.store_move.Goals as goal

pub returns : goal.returns
returns c = store_move
