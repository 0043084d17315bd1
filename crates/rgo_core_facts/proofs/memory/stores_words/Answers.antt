use Rattle.rgo_core_facts.proofs.Storing.{stores_words}
use Rattle.rgo_core_facts.proofs.memory.stores_words.Goals as goal

pub returns : goal.returns
returns c = stores_words
