use Rattle.rgo_wellformed.proofs.Types.{one_type, types_exist}
use Rattle.rgo_wellformed.proofs.laws.one_type.Goals as goal

pub returns : goal.returns
returns c = record { one_type = one_type; exists = types_exist }
