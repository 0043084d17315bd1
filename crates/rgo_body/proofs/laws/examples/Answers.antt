use Rattle.rgo_body.proofs.Examined.{examples}
use Rattle.rgo_body.proofs.laws.examples.Goals as goal

pub returns : goal.returns
returns c = examples
