use Rattle.rgo_core.proofs.channel_steps.TrapMoves as lemmas
use Rattle.rgo_core.proofs.channel_moves.close_trap_move.Goals as goal

pub returns : goal.returns
returns c = lemmas.close_trap_move
