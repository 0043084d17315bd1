use Rattle.rgo_core_frames.proofs.steps.Ints as lemmas
use Rattle.rgo_core_frames.proofs.laws.ints_stay.Goals as goal

pub returns : goal.returns
returns c = lemmas.ints_stay
