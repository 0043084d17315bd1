use Rattle.rgo_claim_examples.proofs.Ends.{end_examples}
use Rattle.rgo_claim_examples.proofs.laws.end_examples.Goals as goal

pub returns : goal.returns
returns g = end_examples
