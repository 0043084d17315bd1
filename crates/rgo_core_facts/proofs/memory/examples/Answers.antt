use Rattle.rgo_core_facts.proofs.MemoryExamples.{object_examples, place_examples}
use Rattle.rgo_core_facts.proofs.memory.examples.Goals as goal

pub returns-clause-objects : goal.returns-clause-objects
returns-clause-objects c = object_examples

pub returns-clause-places : goal.returns-clause-places
returns-clause-places c = place_examples
