use Rattle.rgo_core_facts.proofs.NewWords.{has_region}
use Rattle.rgo_core_facts.proofs.memory.has_region.Goals as goal

pub returns : goal.returns
returns c = has_region
