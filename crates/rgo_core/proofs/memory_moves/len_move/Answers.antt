use Rattle.rgo_core.proofs.accesses.Accesses.{len_move}
use Rattle.rgo_core.proofs.memory_moves.len_move.Goals as goal

pub returns : goal.returns
returns c = len_move
