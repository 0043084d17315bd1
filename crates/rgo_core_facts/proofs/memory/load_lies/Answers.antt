use Rattle.rgo_core_facts.proofs.Lying.{load_lies}
use Rattle.rgo_core_facts.proofs.memory.load_lies.Goals as goal

pub returns : goal.returns
returns c = load_lies
