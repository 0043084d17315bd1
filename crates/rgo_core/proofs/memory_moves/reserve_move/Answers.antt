use Rattle.rgo_core.proofs.pages.Reserves as lemmas
use Rattle.rgo_core.proofs.memory_moves.reserve_move.Goals as goal

pub returns : goal.returns
returns c = lemmas.reserve_move
