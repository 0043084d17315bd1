use Rattle.rgo_core_channels.proofs.Meetings as lemmas
use Rattle.rgo_core_channels.proofs.laws.acknowledge_law.Goals as goal

pub returns : goal.returns
returns c = lemmas.acknowledge_is
