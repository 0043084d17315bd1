use Rattle.rgo_runtime.proofs.ending.Narrowing.{sizing_examples}
use Rattle.rgo_runtime.proofs.sizing.examples.Goals as goal

pub returns : goal.returns
returns c = sizing_examples
