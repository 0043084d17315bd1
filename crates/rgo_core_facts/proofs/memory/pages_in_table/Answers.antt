use Rattle.rgo_core_facts.proofs.Lying.{pages_in_table}
use Rattle.rgo_core_facts.proofs.memory.pages_in_table.Goals as goal

pub returns : goal.returns
returns c = pages_in_table
