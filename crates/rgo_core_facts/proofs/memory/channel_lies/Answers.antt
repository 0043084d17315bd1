use Rattle.rgo_core_facts.proofs.Lying.{channel_lies}
use Rattle.rgo_core_facts.proofs.memory.channel_lies.Goals as goal

pub returns : goal.returns
returns c = channel_lies
