use Rattle.rgo_sound.proofs.steps.Examples as lemmas
use Rattle.rgo_sound.proofs.laws.examples.Goals as goal

pub returns : goal.returns
returns c = lemmas.examples
