use Rattle.rgo_core_facts.proofs.Lying.{get_exists}
use Rattle.rgo_core_facts.proofs.memory.get_exists.Goals as goal

pub returns : goal.returns
returns c = get_exists
