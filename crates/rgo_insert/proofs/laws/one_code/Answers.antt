use Rattle.rgo_insert.proofs.OneCode.{one_code}
use Rattle.rgo_insert.proofs.laws.one_code.Goals as goal

pub returns : goal.returns
returns c = one_code
