use Rattle.rgo_settling.proofs.Small as made
use Rattle.rgo_settling.proofs.laws.examples.Goals as goal

pub returns : goal.returns
returns c = made.examples
