use Rattle.rgo_core_memory.proofs.pages.InUse.{some_left}
use Rattle.rgo_core_memory.proofs.laws.left_law.Goals as goal

pub returns : goal.returns
returns c = some_left
