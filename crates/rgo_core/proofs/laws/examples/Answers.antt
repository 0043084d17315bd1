use Rattle.rgo_core.proofs.Examples as lemmas
use Rattle.rgo_core.proofs.runs.Possible.{possible_examples}
use Rattle.rgo_core.proofs.laws.examples.Goals as goal

pub returns-clause-clock : goal.returns-clause-clock
returns-clause-clock c = lemmas.clock_examples

pub returns-clause-numbers : goal.returns-clause-numbers
returns-clause-numbers c = lemmas.number_examples

pub returns-clause-causes : goal.returns-clause-causes
returns-clause-causes c = lemmas.cause_examples

pub returns-clause-core : goal.returns-clause-core
returns-clause-core c = lemmas.core_examples

pub returns-clause-possible : goal.returns-clause-possible
returns-clause-possible c = possible_examples

pub returns-clause-room : goal.returns-clause-room
returns-clause-room c = lemmas.room_examples
