use Rattle.rgo_core_memory.proofs.image.Elsewhere as lemmas
use Rattle.rgo_core_memory.proofs.laws.number_law.Goals as goal

pub returns : goal.returns
returns c = lemmas.number_keeps
