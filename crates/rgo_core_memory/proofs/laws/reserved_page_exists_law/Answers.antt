use Rattle.rgo_core_memory.proofs.image.Existing.{reserved_page_exists}
use Rattle.rgo_core_memory.proofs.laws.reserved_page_exists_law.Goals as goal

pub returns : goal.returns
returns c = reserved_page_exists
