use Rattle.rgo_core_facts.proofs.Lying.{len_lies}
use Rattle.rgo_core_facts.proofs.memory.len_lies.Goals as goal

pub returns : goal.returns
returns c = len_lies
