use Rattle.rgo_core_facts.proofs.TooLarge.{too_large}
use Rattle.rgo_core_facts.proofs.memory.too_large.Goals as goal

pub returns : goal.returns
returns c = too_large
