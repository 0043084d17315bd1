use Rattle.rgo_runtime.proofs.ending.Telling.{pass_tells}
use Rattle.rgo_runtime.proofs.laws.pass_law.Goals as goal

pub returns : goal.returns
returns c = pass_tells
