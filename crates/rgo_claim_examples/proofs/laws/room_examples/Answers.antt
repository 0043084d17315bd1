use Rattle.rgo_claim_examples.proofs.StateExamples.{room_examples}
use Rattle.rgo_claim_examples.proofs.laws.room_examples.Goals as goal

pub returns : goal.returns
returns g = room_examples
