use Rattle.rgo_core_frames.proofs.Sound as lemmas
use Rattle.rgo_core_frames.proofs.laws.sound_stays.Goals as goal

pub returns : goal.returns
returns c = lemmas.sound_stays
