use Rattle.rgo_goroutine.proofs.Examples.{passing_examples, turn_examples}
use Rattle.rgo_goroutine.proofs.turning.examples.Goals as goal

pub returns : goal.returns
returns c = record { turns = turn_examples; passing = passing_examples }
