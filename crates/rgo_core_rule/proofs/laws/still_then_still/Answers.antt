use Rattle.rgo_core_rule.proofs.Still.{still_then}
use Rattle.rgo_core_rule.proofs.laws.still_then_still.Goals as goal

pub returns : goal.returns
returns g c key who = still_then g.X.Explanation.accesses (g.X.Explanation.explains key) who
