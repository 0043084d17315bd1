use Rattle.rgo_runtime.proofs.examples.Parking.{parking}
use Rattle.rgo_runtime.proofs.parking.examples.Goals as goal

pub returns : goal.returns
returns c = parking
