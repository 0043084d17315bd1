use Rattle.rgo_core_facts.proofs.Lying.{slice_lies}
use Rattle.rgo_core_facts.proofs.memory.slice_lies.Goals as goal

pub returns : goal.returns
returns c = slice_lies
