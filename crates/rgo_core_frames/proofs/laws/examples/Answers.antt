use Rattle.rgo_core_frames.proofs.Examples as lemmas
use Rattle.rgo_core_frames.proofs.laws.examples.Goals as goal

pub returns : goal.returns
returns c = lemmas.examples
