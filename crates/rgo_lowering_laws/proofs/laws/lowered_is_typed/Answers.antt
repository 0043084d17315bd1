use Rattle.rgo_lowering_laws.proofs.Programs.{lowered_is_typed}
use Rattle.rgo_lowering_laws.proofs.laws.lowered_is_typed.Goals as goal

pub returns : goal.returns
returns g = lowered_is_typed
