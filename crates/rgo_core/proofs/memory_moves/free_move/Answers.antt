use Rattle.rgo_core.proofs.pages.Chains.{free_move}
use Rattle.rgo_core.proofs.memory_moves.free_move.Goals as goal

pub returns : goal.returns
returns c = free_move
