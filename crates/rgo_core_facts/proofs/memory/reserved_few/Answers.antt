use Rattle.rgo_core_facts.proofs.OwnPages.{reserved_few}
use Rattle.rgo_core_facts.proofs.memory.reserved_few.Goals as goal

pub returns : goal.returns
returns c = reserved_few
