use Rattle.rgo_core_facts.proofs.Lying.{set_exists}
use Rattle.rgo_core_facts.proofs.memory.set_exists.Goals as goal

pub returns : goal.returns
returns c = set_exists
