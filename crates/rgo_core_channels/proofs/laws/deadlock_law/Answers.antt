use Rattle.rgo_core_channels.proofs.Deadlock as lemmas
use Rattle.rgo_core_channels.proofs.laws.deadlock_law.Goals as goal

pub returns : goal.returns
returns c = lemmas.deadlock
