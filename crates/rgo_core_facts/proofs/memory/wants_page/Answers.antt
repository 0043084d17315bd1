use Rattle.rgo_core_facts.proofs.NewWords.{wants_page}
use Rattle.rgo_core_facts.proofs.memory.wants_page.Goals as goal

pub returns : goal.returns
returns c = wants_page
