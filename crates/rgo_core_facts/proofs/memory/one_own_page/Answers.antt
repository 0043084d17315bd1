use Rattle.rgo_core_facts.proofs.OwnPages.{one_own_page}
use Rattle.rgo_core_facts.proofs.memory.one_own_page.Goals as goal

pub returns : goal.returns
returns c = one_own_page
