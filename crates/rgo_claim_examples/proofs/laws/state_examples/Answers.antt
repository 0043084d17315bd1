use Rattle.rgo_claim_examples.proofs.StateExamples.{state_examples}
use Rattle.rgo_claim_examples.proofs.laws.state_examples.Goals as goal

pub returns : goal.returns
returns g = state_examples
