use Rattle.rgo_core_channels.proofs.Locks as lemmas
use Rattle.rgo_core_channels.proofs.laws.cell_store_law.Goals as goal

pub returns : goal.returns
returns c = lemmas.cell_store_is
