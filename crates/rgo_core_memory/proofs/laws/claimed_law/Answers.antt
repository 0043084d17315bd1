use Rattle.rgo_core_memory.proofs.pages.Owing.{still_claimed}
use Rattle.rgo_core_memory.proofs.laws.claimed_law.Goals as goal

pub returns : goal.returns
returns c = still_claimed
