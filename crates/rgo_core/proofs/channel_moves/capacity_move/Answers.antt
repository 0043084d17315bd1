use Rattle.rgo_core.proofs.channel_steps.Moves as lemmas
use Rattle.rgo_core.proofs.channel_moves.capacity_move.Goals as goal

pub returns : goal.returns
returns c = lemmas.capacity_move
