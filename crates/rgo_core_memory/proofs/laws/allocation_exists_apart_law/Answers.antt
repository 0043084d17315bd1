use Rattle.rgo_core_memory.proofs.image.Existing.{allocation_exists_apart}
use Rattle.rgo_core_memory.proofs.laws.allocation_exists_apart_law.Goals as goal

pub returns : goal.returns
returns c = allocation_exists_apart
