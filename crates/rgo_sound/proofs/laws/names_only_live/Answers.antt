use Rattle.rgo_sound.proofs.offers.Offers.{names_only_live}
use Rattle.rgo_sound.proofs.laws.names_only_live.Goals as goal

pub returns : goal.returns
returns c = names_only_live
