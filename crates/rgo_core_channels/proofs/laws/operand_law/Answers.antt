use Rattle.rgo_core_channels.proofs.Live as lemmas
use Rattle.rgo_core_channels.proofs.laws.operand_law.Goals as goal

pub returns : goal.returns
returns c = lemmas.operand_is_live
