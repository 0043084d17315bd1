use Rattle.rgo_core.proofs.accesses.Elements.{put_move}
use Rattle.rgo_core.proofs.memory_moves.put_move.Goals as goal

pub returns : goal.returns
returns c = put_move
