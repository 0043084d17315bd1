use Rattle.rgo_core.proofs.channel_steps.Meetings as lemmas
use Rattle.rgo_core.proofs.channel_moves.meet_move.Goals as goal

pub returns : goal.returns
returns c = lemmas.meet_move
