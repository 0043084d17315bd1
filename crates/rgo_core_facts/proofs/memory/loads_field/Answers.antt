use Rattle.rgo_core_facts.proofs.Lying.{loads_field}
use Rattle.rgo_core_facts.proofs.memory.loads_field.Goals as goal

pub returns : goal.returns
returns c = loads_field
