use Rattle.rgo_acts.proofs.examples.Actors.{actor_examples}
use Rattle.rgo_acts.proofs.actors.examples.Goals as goal

pub returns : goal.returns
returns c = actor_examples
