use Rattle.rgo_core.proofs.accesses.Accesses.{set_move}
use Rattle.rgo_core.proofs.memory_moves.set_move.Goals as goal

pub returns : goal.returns
returns c = set_move
