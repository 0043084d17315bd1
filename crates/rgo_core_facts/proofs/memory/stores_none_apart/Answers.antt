use Rattle.rgo_core_facts.proofs.StoringApart.{stores_none_apart}
use Rattle.rgo_core_facts.proofs.memory.stores_none_apart.Goals as goal

pub returns : goal.returns
returns c = stores_none_apart
