use Rattle.rgo_claim_examples.proofs.EmittedCode.{emitted_examples}
use Rattle.rgo_claim_examples.proofs.laws.emitted_examples.Goals as goal

pub returns : goal.returns
returns g = emitted_examples
