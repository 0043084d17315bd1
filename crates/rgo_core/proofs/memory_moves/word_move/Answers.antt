use Rattle.rgo_core.proofs.new_objects.Objects.{word_move}
use Rattle.rgo_core.proofs.memory_moves.word_move.Goals as goal

pub returns : goal.returns
returns c = word_move
