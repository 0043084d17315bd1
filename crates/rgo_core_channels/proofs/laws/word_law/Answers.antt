use Rattle.rgo_core_channels.proofs.Quiet as lemmas
use Rattle.rgo_core_channels.proofs.laws.word_law.Goals as goal

pub returns : goal.returns
returns c = lemmas.word_keeps
