use Rattle.rgo_sound.proofs.steps.Leaving as lemmas
use Rattle.rgo_sound.proofs.laws.offers_stay.Goals as goal

pub returns : goal.returns
returns c = lemmas.offers_stay
