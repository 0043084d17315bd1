use Rattle.rgo_lower.proofs.Determined.{lowering_is_determined}
use Rattle.rgo_lower.proofs.laws.lowering_is_determined.Goals as goal

pub returns : goal.returns
returns g = lowering_is_determined
