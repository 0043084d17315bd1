use Rattle.rgo_core_facts.proofs.NewWords.{makes_channel}
use Rattle.rgo_core_facts.proofs.memory.makes_channel.Goals as goal

pub returns : goal.returns
returns c = makes_channel
