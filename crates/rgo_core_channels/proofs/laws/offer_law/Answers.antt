use Rattle.rgo_core_channels.proofs.Meetings as lemmas
use Rattle.rgo_core_channels.proofs.laws.offer_law.Goals as goal

pub returns : goal.returns
returns c = lemmas.offer_is
