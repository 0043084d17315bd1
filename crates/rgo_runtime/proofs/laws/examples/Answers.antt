use Rattle.rgo_runtime.proofs.examples.Closing.{closing_examples}
use Rattle.rgo_runtime.proofs.laws.examples.Goals as goal

pub returns : goal.returns
returns c = closing_examples
