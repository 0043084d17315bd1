use Rattle.rgo_core_channels.proofs.Opening as lemmas
use Rattle.rgo_core_channels.proofs.laws.opening_law.Goals as goal

pub returns : goal.returns
returns c = lemmas.opens
