use Rattle.rgo_claim_examples.proofs.Recorded.{record_examples}
use Rattle.rgo_claim_examples.proofs.laws.record_examples.Goals as goal

pub returns : goal.returns
returns g = record_examples
