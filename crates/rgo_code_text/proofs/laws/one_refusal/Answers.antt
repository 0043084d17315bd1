use Rattle.rgo_code_text.proofs.readings.OneRefusal.{one_refusal}
use Rattle.rgo_code_text.proofs.laws.one_refusal.Goals as goal

pub returns : goal.returns
returns c = one_refusal
