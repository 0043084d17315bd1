use Rattle.rgo_core_memory.proofs.objects.Allocating.{allocation_keeps_apart}
use Rattle.rgo_core_memory.proofs.laws.allocation_apart_law.Goals as goal

pub returns : goal.returns
returns c = allocation_keeps_apart
