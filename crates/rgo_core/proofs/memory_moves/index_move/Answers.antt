use Rattle.rgo_core.proofs.accesses.Indexes.{index_move}
use Rattle.rgo_core.proofs.memory_moves.index_move.Goals as goal

pub returns : goal.returns
returns c = index_move
