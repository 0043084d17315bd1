use Rattle.rgo_core.proofs.accesses.ElementTraps.{put_trap_move}
use Rattle.rgo_core.proofs.memory_moves.put_trap_move.Goals as goal

pub returns : goal.returns
returns c = put_trap_move
