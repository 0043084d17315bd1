use Rattle.rgo_core.proofs.pages.Chains.{hang_move}
use Rattle.rgo_core.proofs.memory_moves.hang_move.Goals as goal

pub returns : goal.returns
returns c = hang_move
