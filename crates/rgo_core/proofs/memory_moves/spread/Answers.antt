use Rattle.rgo_core.proofs.pages.SpreadExamples as lemmas
use Rattle.rgo_core.proofs.memory_moves.spread.Goals as goal

pub returns : goal.returns
returns c = lemmas.examples
