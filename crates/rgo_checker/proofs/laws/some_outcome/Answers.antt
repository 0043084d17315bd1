use Rattle.rgo_checker.proofs.outcomes.SomeOutcome as some
use Rattle.rgo_checker.proofs.laws.some_outcome.Goals as goal

pub returns : goal.returns
returns c = some.some_outcome
