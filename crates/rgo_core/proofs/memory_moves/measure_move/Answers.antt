use Rattle.rgo_core.proofs.accesses.Elements.{measure_move}
use Rattle.rgo_core.proofs.memory_moves.measure_move.Goals as goal

pub returns : goal.returns
returns c = measure_move
