use Rattle.rgo_sound.proofs.Progress.{no_step_missing}
use Rattle.rgo_sound.proofs.laws.no_step_missing.Goals as goal

pub returns : goal.returns
returns c = no_step_missing
