use Rattle.rgo_sound.proofs.plain.Running as lemmas
use Rattle.rgo_sound.proofs.laws.runs_on.Goals as goal

pub returns : goal.returns
returns c = lemmas.runs_on
