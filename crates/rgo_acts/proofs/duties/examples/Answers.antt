use Rattle.rgo_acts.proofs.examples.Duties.{duty_examples}
use Rattle.rgo_acts.proofs.duties.examples.Goals as goal

pub returns : goal.returns
returns c = duty_examples
