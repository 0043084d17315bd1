use Rattle.rgo_core_facts.proofs.Storing.{stores_none}
use Rattle.rgo_core_facts.proofs.memory.stores_none.Goals as goal

pub returns : goal.returns
returns c = stores_none
