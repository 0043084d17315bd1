use Rattle.rgo_core_channels.proofs.Buffers as lemmas
use Rattle.rgo_core_channels.proofs.laws.receive_law.Goals as goal

pub returns : goal.returns
returns c = lemmas.receive_is
