use Rattle.rgo_core_facts.proofs.Lying.{stores_field}
use Rattle.rgo_core_facts.proofs.memory.stores_field.Goals as goal

pub returns : goal.returns
returns c = stores_field
