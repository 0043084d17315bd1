use Rattle.rgo_core.proofs.accesses.Accesses.{get_move}
use Rattle.rgo_core.proofs.memory_moves.get_move.Goals as goal

pub returns : goal.returns
returns c = get_move
