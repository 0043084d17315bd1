use Rattle.rgo_code.proofs.Erased.{erasure_is_code}
use Rattle.rgo_code.proofs.laws.erasure_is_code.Goals as goal

pub returns : goal.returns
returns c = erasure_is_code
