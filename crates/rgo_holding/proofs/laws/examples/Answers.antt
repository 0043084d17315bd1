use Rattle.rgo_holding.proofs.HoldingExamples.{examples}
use Rattle.rgo_holding.proofs.laws.examples.Goals as goal

pub returns : goal.returns
returns c = examples
