use Rattle.rgo_core.proofs.pages.Chains.{clear_move}
use Rattle.rgo_core.proofs.memory_moves.clear_move.Goals as goal

pub returns : goal.returns
returns c = clear_move
