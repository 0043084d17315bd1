use Rattle.rgo_core.proofs.accesses.Accesses.{len_nil_still}
use Rattle.rgo_core.proofs.memory_moves.len_nil_still.Goals as goal

pub returns : goal.returns
returns c = len_nil_still
