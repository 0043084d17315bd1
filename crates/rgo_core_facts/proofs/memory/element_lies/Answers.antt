use Rattle.rgo_core_facts.proofs.Lying.{element_lies}
use Rattle.rgo_core_facts.proofs.memory.element_lies.Goals as goal

pub returns : goal.returns
returns c = element_lies
