use Rattle.rgo_core_memory.proofs.image.Facts.{spread_follow}
use Rattle.rgo_core_memory.proofs.laws.spread_follows_law.Goals as goal

pub returns : goal.returns
returns c = spread_follow
