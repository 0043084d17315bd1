use Rattle.rgo_core_rule.proofs.Examples.{counting_examples, rule_examples, move_examples}
use Rattle.rgo_core_rule.proofs.counting.examples.Goals as goal

pub returns-clause-counting : goal.returns-clause-counting
returns-clause-counting c = counting_examples

pub returns-clause-rule : goal.returns-clause-rule
returns-clause-rule c = rule_examples

pub returns-clause-moves : goal.returns-clause-moves
returns-clause-moves c = move_examples
