use Rattle.rgo_core_memory.proofs.image.Elsewhere as lemmas
use Rattle.rgo_core_memory.proofs.laws.clock_law.Goals as goal

pub returns : goal.returns
returns c = lemmas.clock_keeps
