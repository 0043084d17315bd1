use Rattle.rgo_code_text.proofs.readings.Ruled as ruled
use Rattle.rgo_code_text.proofs.laws.rules_suffice.Goals as goal

pub returns : goal.returns
returns c = ruled.rules_suffice
