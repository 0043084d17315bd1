use Rattle.rgo_core_facts.proofs.NewWords.{makes_slice}
use Rattle.rgo_core_facts.proofs.memory.makes_slice.Goals as goal

pub returns : goal.returns
returns c = makes_slice
