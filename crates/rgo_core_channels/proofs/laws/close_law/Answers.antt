use Rattle.rgo_core_channels.proofs.Buffers as lemmas
use Rattle.rgo_core_channels.proofs.laws.close_law.Goals as goal

pub returns : goal.returns
returns c = lemmas.close_is
