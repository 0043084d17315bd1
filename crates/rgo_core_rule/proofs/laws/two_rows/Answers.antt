use Rattle.rgo_core_rule.proofs.Rows as lemmas
use Rattle.rgo_core_rule.proofs.laws.two_rows.Goals as goal

pub returns : goal.returns
returns g c = lemmas.two_rows
