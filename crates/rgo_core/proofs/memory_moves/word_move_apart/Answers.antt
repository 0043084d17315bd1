use Rattle.rgo_core.proofs.new_objects.WordsApart as lemmas
use Rattle.rgo_core.proofs.memory_moves.word_move_apart.Goals as goal

pub returns : goal.returns
returns c = lemmas.word_move_apart
