use Rattle.rgo_lower.proofs.follows.Whole.{lowering_simulates}
use Rattle.rgo_lower.proofs.laws.lowering_simulates.Goals as goal

pub returns : goal.returns
returns g = lowering_simulates
