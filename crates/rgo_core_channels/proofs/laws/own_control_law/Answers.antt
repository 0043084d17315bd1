use Rattle.rgo_core_channels.proofs.Locks as lemmas
use Rattle.rgo_core_channels.proofs.laws.own_control_law.Goals as goal

pub returns : goal.returns
returns c = lemmas.own_control_is
