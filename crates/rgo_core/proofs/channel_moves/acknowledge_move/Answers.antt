use Rattle.rgo_core.proofs.channel_steps.Meetings as lemmas
use Rattle.rgo_core.proofs.channel_moves.acknowledge_move.Goals as goal

pub returns : goal.returns
returns c = lemmas.acknowledge_move
