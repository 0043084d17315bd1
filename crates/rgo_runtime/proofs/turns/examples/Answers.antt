use Rattle.rgo_runtime.proofs.examples.Turns.{turning}
use Rattle.rgo_runtime.proofs.turns.examples.Goals as goal

pub returns : goal.returns
returns c = turning
