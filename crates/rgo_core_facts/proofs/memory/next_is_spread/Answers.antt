use Rattle.rgo_core_facts.proofs.NewWords.{next_is_spread}
use Rattle.rgo_core_facts.proofs.memory.next_is_spread.Goals as goal

pub returns : goal.returns
returns c = next_is_spread
