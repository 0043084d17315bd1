use Rattle.rgo_checker.proofs.outcomes.OneOutcome.{one_outcome}
use Rattle.rgo_checker.proofs.laws.one_outcome.Goals as goal

pub returns : goal.returns
returns c = one_outcome
