use Rattle.rgo_core_steps.proofs.record_steps.SettledLaws as lemmas
use Rattle.rgo_core_steps.proofs.laws.settled_laws.Goals as goal

pub returns : goal.returns
returns c = lemmas.settled_laws
