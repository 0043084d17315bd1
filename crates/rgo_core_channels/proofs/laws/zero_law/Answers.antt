use Rattle.rgo_core_channels.proofs.Buffers as lemmas
use Rattle.rgo_core_channels.proofs.laws.zero_law.Goals as goal

pub returns : goal.returns
returns c = lemmas.zero_is
