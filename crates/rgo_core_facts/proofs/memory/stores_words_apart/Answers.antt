use Rattle.rgo_core_facts.proofs.StoringApart.{stores_words_apart}
use Rattle.rgo_core_facts.proofs.memory.stores_words_apart.Goals as goal

pub returns : goal.returns
returns c = stores_words_apart
