use Rattle.rgo_core.proofs.clock.OperandTraps.{store_trap_move}
use Rattle.rgo_core.proofs.memory_moves.store_trap_move.Goals as goal

pub returns : goal.returns
returns c = store_trap_move
