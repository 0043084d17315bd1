use Rattle.rgo_core.proofs.pages.Chains.{next_move}
use Rattle.rgo_core.proofs.memory_moves.next_move.Goals as goal

pub returns : goal.returns
returns c = next_move
