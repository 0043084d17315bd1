use Rattle.rgo_core.proofs.channel_steps.Commits as lemmas
use Rattle.rgo_core.proofs.channel_moves.receive_move.Goals as goal

pub returns : goal.returns
returns c = lemmas.receive_move
