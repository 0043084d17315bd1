use Rattle.rgo_core_channels.proofs.Quiet as lemmas
use Rattle.rgo_core_channels.proofs.laws.finish_law.Goals as goal

pub returns : goal.returns
returns c = lemmas.finish_keeps
