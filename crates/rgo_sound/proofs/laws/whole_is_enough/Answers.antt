use Rattle.rgo_sound.proofs.counts.Whole as lemmas
use Rattle.rgo_sound.proofs.laws.whole_is_enough.Goals as goal

pub returns : goal.returns
returns c = lemmas.whole_is_enough
