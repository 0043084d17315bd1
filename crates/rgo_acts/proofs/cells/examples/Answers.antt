use Rattle.rgo_acts.proofs.examples.Actors.{element_examples}
use Rattle.rgo_acts.proofs.cells.examples.Goals as goal

pub returns : goal.returns
returns c = element_examples
