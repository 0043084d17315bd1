use Rattle.rgo_core_channels.proofs.Elsewhere as lemmas
use Rattle.rgo_core_channels.proofs.laws.event_law.Goals as goal

pub returns : goal.returns
returns c = lemmas.event_keeps
