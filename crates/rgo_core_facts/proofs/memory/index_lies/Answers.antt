use Rattle.rgo_core_facts.proofs.Lying.{index_lies}
use Rattle.rgo_core_facts.proofs.memory.index_lies.Goals as goal

pub returns : goal.returns
returns c = index_lies
