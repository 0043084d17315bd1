use Rattle.rgo_core_facts.proofs.OwnPages.{claimed_page}
use Rattle.rgo_core_facts.proofs.memory.claimed_page.Goals as goal

pub returns : goal.returns
returns c = claimed_page
