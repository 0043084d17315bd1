use Rattle.rgo_core.proofs.pages.Chains.{link_move}
use Rattle.rgo_core.proofs.memory_moves.link_move.Goals as goal

pub returns : goal.returns
returns c = link_move
