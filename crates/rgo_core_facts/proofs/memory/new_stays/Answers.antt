use Rattle.rgo_core_facts.proofs.Storing.{new_stays}
use Rattle.rgo_core_facts.proofs.memory.new_stays.Goals as goal

pub returns : goal.returns
returns c = new_stays
