use Rattle.rgo_sound.proofs.counts.Pages as lemmas
use Rattle.rgo_sound.proofs.laws.reserved_for_next.Goals as goal

pub returns : goal.returns
returns c = lemmas.reserved_for_next
