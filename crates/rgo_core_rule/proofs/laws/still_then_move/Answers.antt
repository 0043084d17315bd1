use Rattle.rgo_core_rule.proofs.Still.{still_move}
use Rattle.rgo_core_rule.proofs.laws.still_then_move.Goals as goal

pub returns : goal.returns
returns g c key who a b i f = still_move g.X.Explanation.accesses (g.X.Explanation.explains key) who a b i f g.T.Step.tells
