use Rattle.rgo_core_memory.proofs.regions.Attending.{reserved_page_keeps}
use Rattle.rgo_core_memory.proofs.laws.reserved_page_law.Goals as goal

pub returns : goal.returns
returns c = reserved_page_keeps
