use Rattle.rgo_core_facts.proofs.Storing.{at_stays}
use Rattle.rgo_core_facts.proofs.memory.at_stays.Goals as goal

pub returns : goal.returns
returns c = at_stays
