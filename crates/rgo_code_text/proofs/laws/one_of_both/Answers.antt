use Rattle.rgo_code_text.proofs.readings.EachText as each
use Rattle.rgo_code_text.proofs.laws.one_of_both.Goals as goal

pub returns : goal.returns
returns c = each.one_of_both
