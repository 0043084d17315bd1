use Rattle.rgo_sound.proofs.pointers.Owners as lemmas
use Rattle.rgo_sound.proofs.laws.owners_stay_made.Goals as goal

pub returns : goal.returns
returns c = lemmas.owners_stay_made
