use Rattle.rgo_core_facts.proofs.Lying.{store_lies}
use Rattle.rgo_core_facts.proofs.memory.store_lies.Goals as goal

pub returns : goal.returns
returns c = store_lies
