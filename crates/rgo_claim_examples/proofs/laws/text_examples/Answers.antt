use Rattle.rgo_claim_examples.proofs.Texts.{text_examples}
use Rattle.rgo_claim_examples.proofs.laws.text_examples.Goals as goal

pub returns : goal.returns
returns g = text_examples
