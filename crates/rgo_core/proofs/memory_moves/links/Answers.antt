use Rattle.rgo_core.proofs.accesses.LinkExamples as lemmas
use Rattle.rgo_core.proofs.memory_moves.links.Goals as goal

pub returns : goal.returns
returns c = lemmas.examples
