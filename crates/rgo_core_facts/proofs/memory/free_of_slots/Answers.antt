use Rattle.rgo_core_facts.proofs.OwnPages.{free_of_slots}
use Rattle.rgo_core_facts.proofs.memory.free_of_slots.Goals as goal

pub returns : goal.returns
returns c = free_of_slots
