use Rattle.rgo_stack.proofs.Examined as made
use Rattle.rgo_stack.proofs.laws.examples.Goals as goal

pub returns : goal.returns
returns c = made.examples
