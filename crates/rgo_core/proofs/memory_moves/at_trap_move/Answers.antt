use Rattle.rgo_core.proofs.accesses.ElementTraps.{at_trap_move}
use Rattle.rgo_core.proofs.memory_moves.at_trap_move.Goals as goal

pub returns : goal.returns
returns c = at_trap_move
