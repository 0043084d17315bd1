use Rattle.rgo_core.proofs.channel_steps.Examples as lemmas
use Rattle.rgo_core.proofs.channel_moves.examples.Goals as goal

pub returns : goal.returns
returns c = lemmas.examples
