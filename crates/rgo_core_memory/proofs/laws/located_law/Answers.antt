use Rattle.rgo_core_memory.proofs.image.Keeps.{located_keeps}
use Rattle.rgo_core_memory.proofs.laws.located_law.Goals as goal

pub returns : goal.returns
returns c = located_keeps
