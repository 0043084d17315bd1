use Rattle.rgo_core_memory.proofs.Examples as lemmas
use Rattle.rgo_core_memory.proofs.laws.examples.Goals as goal

pub returns : goal.returns
returns c = lemmas.examples
