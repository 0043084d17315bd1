use Rattle.rgo_core.proofs.pages.Claims.{claim_move}
use Rattle.rgo_core.proofs.memory_moves.claim_move.Goals as goal

pub returns : goal.returns
returns c = claim_move
