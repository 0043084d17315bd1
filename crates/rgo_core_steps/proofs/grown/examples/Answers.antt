use Rattle.rgo_core_steps.proofs.examples.Grown.{grown_examples}
use Rattle.rgo_core_steps.proofs.grown.examples.Goals as goal

pub returns : goal.returns
returns c = grown_examples
