use Rattle.rgo_core_channels.proofs.Traps as lemmas
use Rattle.rgo_core_channels.proofs.laws.close_nil_law.Goals as goal

pub returns : goal.returns
returns c = lemmas.close_nil_is
