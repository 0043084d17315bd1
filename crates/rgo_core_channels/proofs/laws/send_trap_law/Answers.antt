use Rattle.rgo_core_channels.proofs.Traps as lemmas
use Rattle.rgo_core_channels.proofs.laws.send_trap_law.Goals as goal

pub returns : goal.returns
returns c = lemmas.send_trap_is
