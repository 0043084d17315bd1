use Rattle.rgo_core.proofs.channel_steps.Moves as lemmas
use Rattle.rgo_core.proofs.channel_moves.lock_move.Goals as goal

pub returns : goal.returns
returns c = lemmas.lock_move
