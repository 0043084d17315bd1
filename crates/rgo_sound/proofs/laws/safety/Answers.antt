use Rattle.rgo_sound.proofs.Safe.{safety}
use Rattle.rgo_sound.proofs.laws.safety.Goals as goal

pub returns : goal.returns
returns c = safety
