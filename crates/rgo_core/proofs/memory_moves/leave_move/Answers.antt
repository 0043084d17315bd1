use Rattle.rgo_core.proofs.regions.Regions.{leave_move}
use Rattle.rgo_core.proofs.memory_moves.leave_move.Goals as goal

pub returns : goal.returns
returns c = leave_move
