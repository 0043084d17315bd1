use Rattle.rgo_acts.proofs.examples.Objects as made
use Rattle.rgo_acts.proofs.objects.examples.Goals as goal

pub returns : goal.returns
returns c = made.examples
