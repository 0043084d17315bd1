use Rattle.rgo_sound.proofs.types.Steps.{types_keep}
use Rattle.rgo_sound.proofs.laws.types_keep.Goals as goal

pub returns : goal.returns
returns c = types_keep
