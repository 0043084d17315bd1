use Rattle.rgo_core.proofs.clock.OperandTraps.{size_trap_move}
use Rattle.rgo_core.proofs.memory_moves.size_trap_move.Goals as goal

pub returns : goal.returns
returns c = size_trap_move
