use Rattle.rgo_core.proofs.channel_steps.TrapMoves as lemmas
use Rattle.rgo_core.proofs.channel_moves.stranded_move.Goals as goal

pub returns : goal.returns
returns c = lemmas.stranded_move
