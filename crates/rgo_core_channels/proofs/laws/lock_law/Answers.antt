use Rattle.rgo_core_channels.proofs.Locks as lemmas
use Rattle.rgo_core_channels.proofs.laws.lock_law.Goals as goal

pub returns : goal.returns
returns c = lemmas.lock_is_taken
