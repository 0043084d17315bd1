use Rattle.rgo_runtime.proofs.examples.Crews.{whole_crews}
use Rattle.rgo_runtime.proofs.crew.examples.Goals as goal

pub returns : goal.returns
returns c = whole_crews
