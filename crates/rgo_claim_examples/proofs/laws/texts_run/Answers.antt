use Rattle.rgo_claim_examples.proofs.Whole.{texts_run}
use Rattle.rgo_claim_examples.proofs.laws.texts_run.Goals as goal

pub returns : goal.returns
returns g = texts_run
