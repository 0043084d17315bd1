use Rattle.rgo_size_laws.proofs.ExampleProofs.{size_examples}
use Rattle.rgo_size_laws.proofs.laws.examples.Goals as goal

pub returns : goal.returns
returns c = size_examples
