use Rattle.rgo_core.proofs.channel_steps.Moves as lemmas
use Rattle.rgo_core.proofs.channel_moves.page_number_move.Goals as goal

pub returns : goal.returns
returns c = lemmas.page_number_move
