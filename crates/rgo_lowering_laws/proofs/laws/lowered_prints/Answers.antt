use Rattle.rgo_lowering_laws.proofs.Programs.{lowered_prints}
use Rattle.rgo_lowering_laws.proofs.laws.lowered_prints.Goals as goal

pub returns : goal.returns
returns g = lowered_prints
