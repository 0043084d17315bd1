use Rattle.rgo_core.proofs.image.BoundExamples as lemmas
use Rattle.rgo_core.proofs.memory_moves.bounds.Goals as goal

pub returns : goal.returns
returns c = lemmas.examples
