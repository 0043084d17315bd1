use Rattle.rgo_runtime.proofs.examples.Parking.{printing}
use Rattle.rgo_runtime.proofs.printing.examples.Goals as goal

pub returns : goal.returns
returns c = printing
