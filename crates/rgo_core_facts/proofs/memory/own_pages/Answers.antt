use Rattle.rgo_core_facts.proofs.OwnPages.{own_pages}
use Rattle.rgo_core_facts.proofs.memory.own_pages.Goals as goal

pub returns : goal.returns
returns c = own_pages
