use Rattle.rgo_sound.proofs.counts.Removed.{removed_stays}
use Rattle.rgo_sound.proofs.laws.removed_stays.Goals as goal

pub returns : goal.returns
returns c = removed_stays
