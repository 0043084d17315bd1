use Rattle.rgo_core_channels.proofs.Locks as lemmas
use Rattle.rgo_core_channels.proofs.laws.capacity_law.Goals as goal

pub returns : goal.returns
returns c = lemmas.capacity_is
