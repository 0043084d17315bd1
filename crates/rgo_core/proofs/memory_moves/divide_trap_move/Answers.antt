use Rattle.rgo_core.proofs.clock.OperandTraps.{divide_trap_move}
use Rattle.rgo_core.proofs.memory_moves.divide_trap_move.Goals as goal

pub returns : goal.returns
returns c = divide_trap_move
