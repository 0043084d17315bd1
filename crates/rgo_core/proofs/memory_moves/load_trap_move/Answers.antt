use Rattle.rgo_core.proofs.clock.OperandTraps.{load_trap_move}
use Rattle.rgo_core.proofs.memory_moves.load_trap_move.Goals as goal

pub returns : goal.returns
returns c = load_trap_move
