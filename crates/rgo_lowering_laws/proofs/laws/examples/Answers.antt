use Rattle.rgo_lowering_laws.proofs.ExampleProofs.{typed_examples}
use Rattle.rgo_lowering_laws.proofs.laws.examples.Goals as goal

pub returns : goal.returns
returns g = typed_examples
