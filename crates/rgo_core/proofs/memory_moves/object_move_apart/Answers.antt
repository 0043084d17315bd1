use Rattle.rgo_core.proofs.new_objects.ObjectsApart as lemmas
use Rattle.rgo_core.proofs.memory_moves.object_move_apart.Goals as goal

pub returns : goal.returns
returns c = lemmas.object_move_apart
