use Rattle.rgo_core.proofs.accesses.Elements.{at_move}
use Rattle.rgo_core.proofs.memory_moves.at_move.Goals as goal

pub returns : goal.returns
returns c = at_move
