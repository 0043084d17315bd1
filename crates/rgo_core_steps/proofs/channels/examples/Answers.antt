use Rattle.rgo_core_steps.proofs.examples.Channels.{channel_examples}
use Rattle.rgo_core_steps.proofs.channels.examples.Goals as goal

pub returns : goal.returns
returns c = channel_examples
