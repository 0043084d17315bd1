use Rattle.rgo_chan.proofs.Examples as lemmas
use Rattle.rgo_chan.proofs.CellExamples.{cell_examples}
use Rattle.rgo_chan.proofs.laws.examples.Goals as goal

pub returns-clause-ready : goal.returns-clause-ready
returns-clause-ready c = lemmas.ready_examples

pub returns-clause-answers : goal.returns-clause-answers
returns-clause-answers c = lemmas.answer_examples

pub returns-clause-cells : goal.returns-clause-cells
returns-clause-cells c = cell_examples
