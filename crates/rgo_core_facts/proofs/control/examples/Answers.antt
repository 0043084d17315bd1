use Rattle.rgo_core_facts.proofs.ControlExamples.{code_examples, frame_examples, print_examples, region_examples}
use Rattle.rgo_core_facts.proofs.control.examples.Goals as goal

pub returns-clause-code : goal.returns-clause-code
returns-clause-code c = code_examples

pub returns-clause-frames : goal.returns-clause-frames
returns-clause-frames c = frame_examples

pub returns-clause-regions : goal.returns-clause-regions
returns-clause-regions c = region_examples

pub returns-clause-prints : goal.returns-clause-prints
returns-clause-prints c = print_examples
