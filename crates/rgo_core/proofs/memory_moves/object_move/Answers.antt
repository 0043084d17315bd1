use Rattle.rgo_core.proofs.new_objects.Objects.{object_move}
use Rattle.rgo_core.proofs.memory_moves.object_move.Goals as goal

pub returns : goal.returns
returns c = object_move
