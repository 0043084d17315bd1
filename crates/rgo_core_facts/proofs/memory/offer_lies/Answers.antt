use Rattle.rgo_core_facts.proofs.Offers.{offer_lies}
use Rattle.rgo_core_facts.proofs.memory.offer_lies.Goals as goal

pub returns : goal.returns
returns c = offer_lies
