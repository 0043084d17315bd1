use Rattle.rgo_core.proofs.runs.Opening.{opening_law as is}
use Rattle.rgo_core.proofs.laws.opening_law.Goals as goal

pub returns : goal.returns
returns c = is
