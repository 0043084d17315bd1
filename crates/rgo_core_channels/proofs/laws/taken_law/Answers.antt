use Rattle.rgo_core_channels.proofs.Live as lemmas
use Rattle.rgo_core_channels.proofs.laws.taken_law.Goals as goal

pub returns : goal.returns
returns c = lemmas.taken_is_live
