use Rattle.rgo_core_channels.proofs.Examples as lemmas
use Rattle.rgo_core_channels.proofs.laws.examples.Goals as goal

pub returns : goal.returns
returns c = lemmas.examples
