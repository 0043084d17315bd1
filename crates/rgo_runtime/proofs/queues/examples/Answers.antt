use Rattle.rgo_runtime.proofs.examples.Parking.{queues}
use Rattle.rgo_runtime.proofs.queues.examples.Goals as goal

pub returns : goal.returns
returns c = queues
