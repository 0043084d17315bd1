use Rattle.rgo_sound.proofs.counts.Tally.{tally_adds}
use Rattle.rgo_sound.proofs.laws.tally_adds.Goals as goal

pub returns : goal.returns
returns c = tally_adds
