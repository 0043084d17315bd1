use Rattle.rgo_acts.proofs.before.Resting.{rests_elsewhere}
use Rattle.rgo_acts.proofs.channels.rests_law.Goals as goal

pub returns : goal.returns
returns c = rests_elsewhere
