use Rattle.rgo_core.proofs.clock.Ending.{large_move}
use Rattle.rgo_core.proofs.memory_moves.large_move.Goals as goal

pub returns : goal.returns
returns c = large_move
