use Rattle.rgo_acts.proofs.examples.Waits.{wait_examples}
use Rattle.rgo_acts.proofs.channels.examples.Goals as goal

pub returns : goal.returns
returns c = wait_examples
