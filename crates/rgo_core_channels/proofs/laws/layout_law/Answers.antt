use Rattle.rgo_core_channels.proofs.Positions as lemmas
use Rattle.rgo_core_channels.proofs.laws.layout_law.Goals as goal

pub returns : goal.returns
returns c = lemmas.layout_is
