use Rattle.rgo_core_channels.proofs.Locks as lemmas
use Rattle.rgo_core_channels.proofs.laws.cell_load_law.Goals as goal

pub returns : goal.returns
returns c = lemmas.cell_load_is
