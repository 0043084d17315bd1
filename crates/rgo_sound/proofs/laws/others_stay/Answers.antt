use Rattle.rgo_sound.proofs.steps.Leaving as lemmas
use Rattle.rgo_sound.proofs.laws.others_stay.Goals as goal

pub returns : goal.returns
returns c = lemmas.others_stay
