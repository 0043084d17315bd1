use Rattle.rgo_core.proofs.channel_steps.Moves as lemmas
use Rattle.rgo_core.proofs.channel_moves.cell_load_move.Goals as goal

pub returns : goal.returns
returns c = lemmas.cell_load_move
