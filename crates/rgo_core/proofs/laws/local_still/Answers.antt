use Rattle.rgo_core.proofs.steps.Local.{local_still as is}
use Rattle.rgo_core.proofs.laws.local_still.Goals as goal

pub returns : goal.returns
returns c = is
