use Rattle.rgo_wellformed.proofs.ExampleProofs.{well, ill, programs}
use Rattle.rgo_wellformed.proofs.laws.examples.Goals as goal

pub returns : goal.returns
returns c = record { well = well; ill = ill; programs = programs }
