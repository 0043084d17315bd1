use Rattle.rgo_core_facts.proofs.NewWords.{wants_reserved}
use Rattle.rgo_core_facts.proofs.memory.wants_reserved.Goals as goal

pub returns : goal.returns
returns c = wants_reserved
