use Rattle.rgo_core.proofs.channel_steps.Commits as lemmas
use Rattle.rgo_core.proofs.channel_moves.zero_move.Goals as goal

pub returns : goal.returns
returns c = lemmas.zero_move
