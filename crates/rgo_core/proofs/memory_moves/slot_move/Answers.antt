use Rattle.rgo_core.proofs.pages.Chains.{slot_move}
use Rattle.rgo_core.proofs.memory_moves.slot_move.Goals as goal

pub returns : goal.returns
returns c = slot_move
