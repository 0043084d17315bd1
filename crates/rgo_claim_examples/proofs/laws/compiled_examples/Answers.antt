use Rattle.rgo_claim_examples.proofs.Compiled.{compiled_examples}
use Rattle.rgo_claim_examples.proofs.laws.compiled_examples.Goals as goal

pub returns : goal.returns
returns g = compiled_examples
