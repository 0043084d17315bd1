use Rattle.rgo_sound.proofs.offers.Offers.{all_good_start}
use Rattle.rgo_sound.proofs.laws.start_is_good.Goals as goal

pub returns : goal.returns
returns c = all_good_start
