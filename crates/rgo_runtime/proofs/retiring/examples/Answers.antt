use Rattle.rgo_runtime.proofs.examples.Crews.{crews}
use Rattle.rgo_runtime.proofs.retiring.examples.Goals as goal

pub returns : goal.returns
returns c = crews
