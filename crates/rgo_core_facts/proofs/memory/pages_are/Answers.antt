use Rattle.rgo_core_facts.proofs.NewWords.{pages_are}
use Rattle.rgo_core_facts.proofs.memory.pages_are.Goals as goal

pub returns : goal.returns
returns c = pages_are
