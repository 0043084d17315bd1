use Rattle.rgo_core.proofs.pages.Chains.{head_move}
use Rattle.rgo_core.proofs.memory_moves.head_move.Goals as goal

pub returns : goal.returns
returns c = head_move
