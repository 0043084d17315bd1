use Rattle.rgo_sound.proofs.offers.Offers.{steps_keep_good}
use Rattle.rgo_sound.proofs.laws.steps_keep_good.Goals as goal

pub returns : goal.returns
returns c = steps_keep_good
