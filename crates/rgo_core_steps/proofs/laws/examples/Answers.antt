use Rattle.rgo_core_steps.proofs.examples.Steps.{after_examples, end_examples, outcome_examples, seat_examples, start_examples}
use Rattle.rgo_core_steps.proofs.laws.examples.Goals as goal

pub returns-clause-seats : goal.returns-clause-seats
returns-clause-seats c = seat_examples

pub returns-clause-after : goal.returns-clause-after
returns-clause-after c = after_examples

pub returns-clause-ends : goal.returns-clause-ends
returns-clause-ends c = end_examples

pub returns-clause-starts : goal.returns-clause-starts
returns-clause-starts c = start_examples

pub returns-clause-outcomes : goal.returns-clause-outcomes
returns-clause-outcomes c = outcome_examples
