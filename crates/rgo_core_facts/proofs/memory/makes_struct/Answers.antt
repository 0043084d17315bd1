use Rattle.rgo_core_facts.proofs.NewWords.{makes_struct}
use Rattle.rgo_core_facts.proofs.memory.makes_struct.Goals as goal

pub returns : goal.returns
returns c = makes_struct
