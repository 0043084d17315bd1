use Rattle.rgo_core_steps.proofs.examples.Memory.{count_examples, making_examples, search_examples}
use Rattle.rgo_core_steps.proofs.examples.Spread.{spread_examples}
use Rattle.rgo_core_steps.proofs.searches.examples.Goals as goal

pub returns-clause-making : goal.returns-clause-making
returns-clause-making c = making_examples

pub returns-clause-spread : goal.returns-clause-spread
returns-clause-spread c = spread_examples

pub returns-clause-counts : goal.returns-clause-counts
returns-clause-counts c = count_examples

pub returns-clause-searches : goal.returns-clause-searches
returns-clause-searches c = search_examples
