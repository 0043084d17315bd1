use Rattle.rgo_core_channels.proofs.Positions as lemmas
use Rattle.rgo_core_channels.proofs.laws.page_number_law.Goals as goal

pub returns : goal.returns
returns c = lemmas.page_number_is
