use Rattle.rgo_core_memory.proofs.image.Keeps.{measured_keeps}
use Rattle.rgo_core_memory.proofs.laws.measured_law.Goals as goal

pub returns : goal.returns
returns c = measured_keeps
