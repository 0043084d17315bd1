use Rattle.rgo_chan.proofs.Waiting as lemmas
use Rattle.rgo_chan.proofs.laws.offer_waits.Goals as goal

pub returns : goal.returns
returns c = lemmas.offer_waits
