use Rattle.rgo_code_text.proofs.readings.Refusing.{no_two}
use Rattle.rgo_code_text.proofs.laws.one_text.Goals as goal

pub returns : goal.returns
returns c = no_two
