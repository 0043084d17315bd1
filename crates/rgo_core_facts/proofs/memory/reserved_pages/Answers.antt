use Rattle.rgo_core_facts.proofs.OwnPages.{reserved_pages}
use Rattle.rgo_core_facts.proofs.memory.reserved_pages.Goals as goal

pub returns : goal.returns
returns c = reserved_pages
