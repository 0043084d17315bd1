use Rattle.rgo_core.proofs.accesses.Accesses.{load_move}
use Rattle.rgo_core.proofs.memory_moves.load_move.Goals as goal

pub returns : goal.returns
returns c = load_move
